-- One time frame of the transition: the clauses are met exactly by what shows a state, an input, the next state and the signature.
use Rattle.std.proofs.Common.{◌≡◌, ℕ, suc, ◌+◌, ◌*◌, ◌<◌, ◌^◌, Bool, true, false, List, [], ◌∷◌, map, length, refl, sym, ap, ◌∙◌, subst, zero-add}
use Rattle.std.specs.Prelude.{slice_index_or}
use Rattle.std.specs.List.{AllByRecursion, All, range_with_len}
use Rattle.std.proofs.lemmas.List.{length-map}
use Rattle.std.proofs.lemmas.List.Elements.{All-from_recursion, recursion_from_All}
use Rattle.std.proofs.lemmas.List.FromFn.{get_or-map-range_with_len, length-range_with_len}
use Rattle.bs_clause.specs.Literal.{Clause, Satisfies}
use Rattle.bs_clause.specs.Range.{IsWithin, HasVariables}
use Rattle.bs_log.specs.Refusal.{has_distinct_variables}
use Rattle.bs_net.specs.declared.net.NetId.{NetId}
use Rattle.bs_net.specs.declared.net.Flop.{Flop}
use Rattle.bs_net.specs.Circuit.{Circuit, next, state_nets, shown}
use Rattle.bs_net.specs.Order.{IsChecked}
use Rattle.bs_net.specs.Parts.{Parts, PartsArePlaced}
use Rattle.bs_net.specs.Netlist.{circuit_of}
use Rattle.bs_net.proofs.CallerLemmas.{exactly_one_fits, next_from_fits}
use Rattle.bs_scan.specs.Signature.{parity_of}
use Rattle.bs_encode.specs.Transition.{net_var, state_vars, item_helpers, first_next, first_item, item_vars}
use Rattle.bs_encode.specs.Encoded.{Encoded, encoding_of}
use Rattle.bs_encode.specs.Depth.{IsLinkable}
use Rattle.bs_encode.specs.Meaning.{IsClosed, ShowsStep, nets_of, next_of, signature_of}
use Rattle.bs_encode.specs.Cycle.{bits_on, ShowsCycle, IsTransition, EncodesCycles}
use Rattle.bs_encode.proofs.PartLemmas.{OnNets, shown_by}
use Rattle.bs_encode.proofs.LawLemmas.{fitting_extends, meeting_fits, parts_placed, states_in_place}
use Rattle.bs_encode.proofs.LiteralLemmas.{length-literals, bits_of_literals}
use Rattle.bs_encode.proofs.RangeLemmas.{Ranged, AllRanged, transition_ranged, states_ranged, next_literals_ranged, signatures_ranged, inputs_ranged}
use Rattle.bs_encode.proofs.DistinctLemmas.{weaken, transition_distinct, signed_distinct, numbers_distinct, states_distinct}

length-item_vars : (v : ℕ) (items : List (List ℕ)) → length (item_vars v items) ≡ length items
length-item_vars v [] = refl
length-item_vars v (item ∷ items) = ap suc (length-item_vars (v + item_helpers item + 1) items)

each_range : (n : ℕ) (cs : List Clause) → AllRanged n cs → AllByRecursion (HasVariables n) cs
each_range n cs h = weaken (Ranged n) (HasVariables n) (λ c r. All-from_recursion (IsWithin n) c r) cs h

state_shown : (a : ℕ → Bool) (v : List Bool) (nets : ℕ) → OnNets a v nets → (fs : List Flop) → AllByRecursion (λ (f : Flop). f.q.0 < nets) fs →
    map a (map (λ (f : Flop). net_var f.q) fs) ≡ shown v (map (λ (f : Flop). f.q) fs)
state_shown a v nets on [] p = refl
state_shown a v nets on (f ∷ fs) p =
    ap (λ b. b ∷ map a (map (λ (g : Flop). net_var g.q) fs)) (on f.q.0 p.0) ∙ ap (λ bs. slice_index_or v f.q.0 false ∷ bs) (state_shown a v nets on fs p.1)

pub on_own_nets : (c : Circuit) (a : ℕ → Bool) → OnNets a (nets_of c a) c.nets
on_own_nets c a n lt = sym (get_or-map-range_with_len (λ k. a (k + 1)) 0 c.nets n n false lt (zero-add n))

module _ (c : Circuit) (items : List (List ℕ)) (checked : IsChecked c) (closed : IsClosed c items) where
  abbrev e : Encoded
  e = encoding_of c items

  pub states_on : (a : ℕ → Bool) (v : List Bool) → OnNets a v c.nets → bits_on a e.states ≡ shown v (state_nets c)
  states_on a v on =
      bits_of_literals a (state_vars c)
      ∙ state_shown a v c.nets on c.flops (states_in_place c items closed)

  pub inputs_on : (a : ℕ → Bool) (v : List Bool) → OnNets a v c.nets → bits_on a e.inputs ≡ shown v c.inputs
  inputs_on a v on =
      bits_of_literals a (map net_var c.inputs)
      ∙ shown_by a v c.nets on c.inputs (recursion_from_All (λ (m : NetId). m.0 < c.nets) c.inputs closed.inputs)

  pub next_on : (a : ℕ → Bool) → bits_on a e.next ≡ next_of c a
  next_on a = bits_of_literals a (range_with_len (first_next c) (length c.flops))

  pub signatures_on : (a : ℕ → Bool) → bits_on a e.signatures ≡ signature_of c items a
  signatures_on a = bits_of_literals a (item_vars (first_item c) items)

  cycle_leads : (value : ℕ → Bool) → All (Satisfies value) e.clauses → next c (bits_on value e.states) (bits_on value e.inputs) ≡ bits_on value e.next
  cycle_leads value met =
      let v : List Bool = nets_of c value in
      let s : List Bool = shown v (state_nets c) in
      let x : List Bool = shown v c.inputs in
      let shows : ShowsStep c items s x v value = meeting_fits c items value closed met in
      let on : OnNets value v c.nets = on_own_nets c value in
      let state_width : length s ≡ length c.flops =
      length-map (state_nets c) (λ (m : NetId). slice_index_or v m.0 false) ∙ length-map c.flops (λ (f : Flop). f.q) in
      let input_width : length x ≡ length c.inputs = length-map c.inputs (λ (m : NetId). slice_index_or v m.0 false) in
      let led : next c s x ≡ bits_on value e.next =
      sym (next_from_fits c s x v checked state_width input_width shows.fits) ∙ (sym shows.next ∙ sym (next_on value)) in
      ap (λ (t : List Bool). next c t (bits_on value e.inputs)) (states_on value v on) ∙ (ap (next c s) (inputs_on value v on) ∙ led)

  cycle_agrees : (value : ℕ → Bool) → All (Satisfies value) e.clauses → map (parity_of (bits_on value e.states)) items ≡ bits_on value e.signatures
  cycle_agrees value met =
      let v : List Bool = nets_of c value in
      let shows : ShowsStep c items (shown v (state_nets c)) (shown v c.inputs) v value = meeting_fits c items value closed met in
      ap (λ (t : List Bool). map (parity_of t) items) (states_on value v (on_own_nets c value)) ∙ (sym shows.signature ∙ sym (signatures_on value))

  cycle_is_shown : (s x : List Bool) → length s ≡ length c.flops → length x ≡ length c.inputs → ShowsCycle e s x (next c s x) (map (parity_of s) items)
  cycle_is_shown s x ls lx =
      let fit = exactly_one_fits c s x checked ls lx in
      let v : List Bool = fit.0 in
      let extension = fitting_extends c items s x v closed fit.1 in
      let a : ℕ → Bool = extension.0 in
      let shows : ShowsStep c items s x v a = extension.2 in
      let Q : List Bool → Type 0 = λ w. OnNets a w c.nets in
      let on : OnNets a v c.nets = subst Q shows.valuation (on_own_nets c a) in
      record {
        value = a;
        clauses = extension.1;
        state = states_on a v on ∙ fit.1.state;
        input = inputs_on a v on ∙ fit.1.input;
        next = next_on a ∙ (shows.next ∙ next_from_fits c s x v checked ls lx fit.1);
        signature = signatures_on a ∙ shows.signature;
      }

  pub is_transition : IsTransition c items e
  is_transition =
      let n : ℕ = e.variables in
      record {
        states_width = length-literals (state_vars c) ∙ length-map c.flops (λ (f : Flop). net_var f.q);
        inputs_width = length-literals (map net_var c.inputs) ∙ length-map c.inputs net_var;
        next_width = length-literals (range_with_len (first_next c) (length c.flops)) ∙ length-range_with_len (first_next c) (length c.flops);
        signatures_width = length-literals (item_vars (first_item c) items) ∙ length-item_vars (first_item c) items;
        clauses_range = All-from_recursion (HasVariables n) e.clauses (each_range n e.clauses (transition_ranged c items closed));
        states_range = All-from_recursion (IsWithin n) e.states (states_ranged c items closed);
        inputs_range = All-from_recursion (IsWithin n) e.inputs (inputs_ranged c items closed);
        next_range = All-from_recursion (IsWithin n) e.next (next_literals_ranged c items closed);
        signatures_range = All-from_recursion (IsWithin n) e.signatures (signatures_ranged c items closed);
        clauses_distinct = All-from_recursion (λ (d : Clause). has_distinct_variables d ≡ true) e.clauses (transition_distinct c items);
        states_distinct = λ bits. signed_distinct e.states bits (states_distinct c checked);
        next_distinct = λ bits. signed_distinct e.next bits (numbers_distinct (first_next c) (length c.flops));
        leads = cycle_leads;
        agrees = cycle_agrees;
        shown = cycle_is_shown;
      }

pub is_linkable : (c : Circuit) (items : List (List ℕ)) (e : Encoded) → IsTransition c items e → 2 * e.variables + 1 < 2 ^ 30 → IsLinkable e
is_linkable c items e t room = record {
  room = room;
  same_width = t.next_width ∙ sym t.states_width;
  clauses = t.clauses_range;
  states = t.states_range;
  next = t.next_range;
  inputs = t.inputs_range;
  signatures = t.signatures_range;
}

pub encodes_cycles : (r : Parts) → PartsArePlaced r → IsChecked (circuit_of r) → EncodesCycles (circuit_of r)
encodes_cycles r placed checked = record { each = λ items within. is_transition (circuit_of r) items checked (parts_placed r placed items within) }
