-- What the lists of candidates need of the encoding of a checked netlist, of one time frame or two.
use Rattle.std.proofs.Common.{◌≡◌, ℕ, ◌+◌, ◌-◌, ◌*◌, ◌<◌, ◌≤◌, ◌^◌, ◌==◌, Bool, true, false, not, ◌&&◌, cond, List, [], ◌∷◌, ◌++◌, map, length}
use Rattle.std.proofs.Common.{eqb, leb, refl, sym, ap, ◌∙◌, inl, inr, arith, subst, Option, None, Some}
use Rattle.std.specs.Prelude.{slice_get, slice_index_or, unwrap_or, IsTrue}
use Rattle.std.specs.Bool.{beq}
use Rattle.std.specs.List.{AllByRecursion, All, list_any}
use Rattle.std.proofs.lemmas.Bool.{false_from_ne_true, false≢true, le-leb, leb-true, eq-eqb, ne_eqb, eqb-true, or_right, or_cases, and_parts, and_from}
use Rattle.std.proofs.lemmas.List.{length-map}
use Rattle.std.proofs.lemmas.List.Elements.{All-from_recursion, recursion_from_All}
use Rattle.bs_bits.specs.Bits.{bits_eq}
use Rattle.bs_clause.specs.Literal.{Literal, Clause, negation, literal_value, Satisfies}
use Rattle.bs_clause.specs.Range.{IsWithin, HasVariables}
use Rattle.bs_clause.proofs.Literals.{literal_value-negation}
use Rattle.bs_clause.proofs.Values.{value_of_negated}
use Rattle.bs_log.specs.History.{Problem, activation_of}
use Rattle.bs_log.specs.Refusal.{has_distinct_variables, assumptions_of}
use Rattle.bs_log.specs.Shown.{Shown}
use Rattle.bs_scan.specs.declared.seen.Seen.{Seen}
use Rattle.bs_scan.specs.Seen.{kept as at_known, Shows}
use Rattle.bs_net.specs.Circuit.{Circuit, next, reset_state, all_bits}
use Rattle.bs_net.specs.Order.{IsChecked}
use Rattle.bs_net.proofs.CallerLemmas.{all_bits_widths}
use Rattle.bs_net.proofs.LawLemmas.{exactly_one_fits}
use Rattle.bs_net.proofs.NextLemmas.{Member, all_bits_member, bits_eq_Decides, next_from_fits}
use Rattle.bs_scan.specs.Choice.{Chosen, depth_of, IsDepth}
use Rattle.bs_scan.specs.Present.{Present}
use Rattle.bs_scan.specs.Signature.{signature, may_hold, agrees, some_input_leads}
use Rattle.bs_scan.proofs.SignatureLemmas.{any_member, some_input}
use Rattle.bs_encode.specs.Transition.{first_next, first_item, variables}
use Rattle.bs_encode.specs.Encoded.{Encoded, encoding_of}
use Rattle.bs_encode.specs.Frame.{raised_all, lowered}
use Rattle.bs_encode.specs.Assuming.{signed, signed_seen, before_assumed, older_assumed, assumptions_for, block_for}
use Rattle.bs_encode.specs.Depth.{link_of, linked, encoding_by, IsLinkable}
use Rattle.bs_encode.specs.Cycle.{bits_on, ShowsCycle, IsTransition}
use Rattle.bs_encode.specs.Meaning.{IsClosed}
use Rattle.bs_encode.specs.Listing.{IsTidy, PredecessorsAreShown, IsBefore, IsPredecessor, SolutionsArePredecessors}
use Rattle.bs_encode.proofs.RangeLemmas.{InRange, Ranged, join, state_vars_ranged, signs_ranged}
use Rattle.bs_encode.proofs.DistinctLemmas.{left_all, right_all, apart_from_each, weaken, distinct_cons, append_apart, signed_all, signed_distinct}
use Rattle.bs_encode.proofs.DistinctLemmas.{above_numbers, below_numbers, above_items, items_distinct, numbers_distinct, kept_distinct}
use Rattle.bs_encode.proofs.LawLemmas.{states_in_place}
use Rattle.bs_encode.proofs.SeenSigns.{seen_all, seen_true, seen_shown}
use Rattle.bs_encode.proofs.LiteralLemmas.{AllTrue, signs_true, bits_shown, block_broken, met_or_not}
use Rattle.bs_encode.proofs.FrameLemmas.{raised_bits, length-raised_all, length-bits_on, distinct_raised, signed_raised, IsIn, raised_in, raised_within, Agree}
use Rattle.bs_encode.proofs.FrameLemmas.{still_met, same_bits}
use Rattle.bs_encode.proofs.OlderLemmas.{linked_range, linked_distinct, first_met, second_met, second_leads, both, both_met, first_is, second_is, link_is}
use Rattle.bs_encode.proofs.CycleLemmas.{is_transition, is_linkable}

-- ---- what a step assumes besides its activation literal

abbrev others : Encoded → Present → Clause
others e q = signed_seen e.next q.state ++ (signed e.signatures (slice_index_or q.stored 0 []) ++ older_assumed e e.link (slice_get q.stored 1))

with_activation_ranged : (e : Encoded) (activation : Literal) (q : Present) → e.variables < activation.variable → Ranged e.variables (others e q) →
    HasVariables activation.variable (assumptions_for e activation q)
with_activation_ranged e activation q above within =
    All-from_recursion (IsWithin activation.variable) (assumptions_for e activation q) (
      (omega (arith, above), omega arith),
      weaken (IsWithin e.variables) (IsWithin activation.variable) (λ l w. (w.0, omega (arith, w.1, above))) (others e q) within,
    )

with_activation_distinct : (e : Encoded) (activation : Literal) (q : Present) → e.variables < activation.variable → Ranged e.variables (others e q) →
    has_distinct_variables (others e q) ≡ true → has_distinct_variables (assumptions_for e activation q) ≡ true
with_activation_distinct e activation q above within distinct =
    distinct_cons activation (others e q)
    (apart_from_each activation.variable (others e q)
    (weaken (IsWithin e.variables) (λ (m : Literal). m.variable ≡ activation.variable → ⊥) (λ l w same. omega (arith, w.1, above, same)) (others e q) within))
    distinct

-- ---- an assignment that an activation literal extends

-- the assignment a on the variables 1 to n, and above them the activation literal's variable alone
abbrev with_activation : (ℕ → Bool) → ℕ → ℕ → ℕ → Bool
with_activation a n activation v = cond (leb v n) (a v) (eqb v activation)

kept : (a : ℕ → Bool) (n activation : ℕ) → Agree n (with_activation a n activation) a
kept a n activation v low le = ap (λ b. cond b (a v) (eqb v activation)) (le-leb v n le)

extended : (a : ℕ → Bool) (n activation v : ℕ) → n < v → with_activation a n activation v ≡ eqb v activation
extended a n activation v lt = ap (λ b. cond b (a v) (eqb v activation)) (false_from_ne_true (leb v n) (λ le. omega (arith, leb-true v n le, lt)))

still_true : (n : ℕ) (a b : ℕ → Bool) → Agree n a b → (c : Clause) → Ranged n c → AllTrue b c → AllTrue a c
still_true n a b same [] r h = tt
still_true n a b same (l ∷ c) r h = (ap (λ x. beq x l.positive) (same l.variable r.0.0 r.0.1) ∙ h.0, still_true n a b same c r.1 h.1)

-- an assignment that meets the clauses and what a step assumes, and shows s, shows s in the step
shown_by : (e : Encoded) (width : ℕ) → length e.states ≡ width → All (HasVariables e.variables) e.clauses → HasVariables e.variables e.states →
    (p : Problem) (i : ℕ) (q : Present) (s : List Bool) → p.vars ≡ e.variables → p.clauses ≡ e.clauses →
    slice_get p.steps i ≡ Some (assumptions_for e (activation_of p (i + 1)) q) → Ranged e.variables (others e q) →
    (a : ℕ → Bool) → AllByRecursion (Satisfies a) e.clauses → bits_on a e.states ≡ s → AllTrue a (others e q) →
    Shown (record { problem = p; block = block_for e }) width (i + 1) s
shown_by e width wide range states p i q s vars clauses step within a met shows holds =
    let n : ℕ = e.variables in
    let activation : ℕ = p.vars + (i + 1) in
    let above : n < activation = omega (arith, vars) in
    let value : ℕ → Bool = with_activation a n activation in
    let activation_is : value activation ≡ true = extended a n activation activation above ∙ eq-eqb activation activation refl in
    let state_bits : bits_on value e.states ≡ s = same_bits n value a (kept a n activation) e.states (recursion_from_All (IsWithin n) e.states states) ∙ shows in
    let assumed : Clause = assumptions_for e (activation_of p (i + 1)) q in
    let place : (i + 1) - 1 ≡ i = omega arith in
    let assumed_is : assumptions_of p (i + 1) ≡ assumed =
    ap (λ j. unwrap_or (slice_get p.steps j) []) place ∙ ap (λ o. unwrap_or o []) step in
    let all_true : AllTrue value assumed = (ap (λ b. beq b true) activation_is, still_true n value a (kept a n activation) (others e q) within holds) in
    let C : List Clause → Type 0 = λ cs. All (Satisfies value) cs in
    let A : Clause → Type 0 = λ c. All (λ l. IsTrue (literal_value value l)) c in
    record {
      value = value;
      clauses =
          subst C (sym clauses)
          (All-from_recursion (Satisfies value) e.clauses
          (still_met n value a (kept a n activation) e.clauses (recursion_from_All (HasVariables n) e.clauses range) met));
      assumptions = subst A (sym assumed_is) (All-from_recursion (λ l. literal_value value l ≡ true) assumed all_true);
      activation = activation_is;
      other_activations =
          λ other one few differ.
          extended a n activation (p.vars + other) (omega (arith, vars, one)) ∙ ne_eqb (p.vars + other) activation (λ same. differ (omega (arith, same)));
      blocks =
          λ t wide' differ.
          or_right (literal_value value (negation (activation_of p (i + 1)))) (list_any (literal_value value) (block_for e t))
          (met_or_not value (block_for e t) (λ broken. differ (sym (block_broken value e.states t (wide' ∙ sym wide) broken) ∙ state_bits)));
    }

-- ---- what the register holds, by its depth

-- a state before s with the older signature, or that s is the one at reset
abbrev Before : Circuit → Chosen → Option (List Bool) → List Bool → Type 0
Before c choice None s = s ≡ reset_state c
Before c choice (Some older) s = (u : List Bool) × (y : List Bool) × IsBefore c choice older s u y

last_stored : (c : Circuit) (choice : Chosen) (stored : List (List Bool)) (s : List Bool) → agrees c choice stored s ≡ true →
    signature choice s ≡ slice_index_or stored 0 []
last_stored c choice [] s h = absurd (false≢true h)
last_stored c choice (last ∷ older) s h =
    (bits_eq_Decides (signature choice s) last).0 (and_parts (bits_eq (signature choice s) last) (may_hold c choice (depth_of choice - 1) older s) h).0

-- a member that passes
any_with : {X : Type 0} (P : X → Type 0) (p : X → Bool) (xs : List X) → AllByRecursion P xs → list_any p xs ≡ true → (x : X) × P x × (p x ≡ true)
any_with P p [] h e = absurd (false≢true e)
any_with P p (x ∷ xs) h e = elim (or_cases (p x) (list_any p xs) e) [
  | inl here ↦ (x, h.0, here)
  | inr later ↦ any_with P p xs h.1 later
]

before_of_agrees : (c : Circuit) (choice : Chosen) (stored : List (List Bool)) (s : List Bool) → depth_of choice ≡ 2 → agrees c choice stored s ≡ true →
    Before c choice (slice_get stored 1) s
before_of_agrees c choice [] s two h = absurd (false≢true h)
before_of_agrees c choice (last ∷ []) s two h =
    let held = (and_parts (bits_eq (signature choice s) last) (may_hold c choice (depth_of choice - 1) [] s) h).1 in
    (bits_eq_Decides s (reset_state c)).0 (sym (ap (λ d. may_hold c choice (d - 1) [] s) two) ∙ held)
before_of_agrees c choice (last ∷ older ∷ rest) s two h =
    let held = (and_parts (bits_eq (signature choice s) last) (may_hold c choice (depth_of choice - 1) (older ∷ rest) s) h).1 in
    let test : List Bool → Bool = λ u. (bits_eq (signature choice u) older && true) && some_input_leads c u s in
    let state = any_with (λ u. length u ≡ length c.flops) test (all_bits (length c.flops))
    (recursion_from_All (λ u. length u ≡ length c.flops) (all_bits (length c.flops)) (all_bits_widths (length c.flops)))
    (sym (ap (λ d. may_hold c choice (d - 1) (older ∷ rest) s) two) ∙ held) in
    let u : List Bool = state.0 in
    let parts = and_parts (bits_eq (signature choice u) older && true) (some_input_leads c u s) state.2 in
    let input = any_with (λ y. length y ≡ length c.inputs) (λ y. bits_eq (next c u y) s) (all_bits (length c.inputs))
    (recursion_from_All (λ y. length y ≡ length c.inputs) (all_bits (length c.inputs)) (all_bits_widths (length c.inputs))) parts.1 in (
      u,
      input.0,
      record {
        state_width = state.1;
        input_width = input.1;
        signature = (bits_eq_Decides (signature choice u) older).0 (and_parts (bits_eq (signature choice u) older) true parts.0).0;
        next = (bits_eq_Decides (next c u input.0) s).0 input.2;
      },
    )

agrees_at_one : (c : Circuit) (choice : Chosen) (stored : List (List Bool)) (s : List Bool) → depth_of choice ≡ 1 → 0 < length stored →
    signature choice s ≡ slice_index_or stored 0 [] → agrees c choice stored s ≡ true
agrees_at_one c choice [] s one some is = absurd (omega (arith, some))
agrees_at_one c choice (last ∷ older) s one some is =
    and_from (bits_eq (signature choice s) last) (may_hold c choice (depth_of choice - 1) older s) ((bits_eq_Decides (signature choice s) last).1 is)
    (ap (λ d. may_hold c choice (d - 1) older s) one)

agrees_at_two : (c : Circuit) (choice : Chosen) (stored : List (List Bool)) (s : List Bool) → depth_of choice ≡ 2 → 0 < length stored →
    signature choice s ≡ slice_index_or stored 0 [] → Before c choice (slice_get stored 1) s → agrees c choice stored s ≡ true
agrees_at_two c choice [] s two some is before = absurd (omega (arith, some))
agrees_at_two c choice (last ∷ []) s two some is before =
    and_from (bits_eq (signature choice s) last) (may_hold c choice (depth_of choice - 1) [] s) ((bits_eq_Decides (signature choice s) last).1 is)
    (ap (λ d. may_hold c choice (d - 1) [] s) two ∙ (bits_eq_Decides s (reset_state c)).1 before)
agrees_at_two c choice (last ∷ older ∷ rest) s two some is before =
    let u : List Bool = before.0 in
    let y : List Bool = before.1 in
    let b : IsBefore c choice older s u y = before.2 in
    let P : ℕ → Type 0 = λ n. Member u (all_bits n) in
    let leads : some_input_leads c u s ≡ true = subst (λ t. some_input_leads c u t ≡ true) b.next (some_input c u y b.input_width) in
    and_from (bits_eq (signature choice s) last) (may_hold c choice (depth_of choice - 1) (older ∷ rest) s) ((bits_eq_Decides (signature choice s) last).1 is)
    (ap (λ d. may_hold c choice (d - 1) (older ∷ rest) s) two
    ∙ any_member (λ t. (bits_eq (signature choice t) older && true) && some_input_leads c t s) u (all_bits (length c.flops))
    (subst P b.state_width (all_bits_member u))
    (and_from (bits_eq (signature choice u) older && true) (some_input_leads c u s)
    (and_from (bits_eq (signature choice u) older) true ((bits_eq_Decides (signature choice u) older).1 b.signature) refl) leads))

-- the width of a stored signature
stored_wide : (n : ℕ) (stored : List (List Bool)) (older : List Bool) → All (λ (t : List Bool). length t ≡ n) stored → slice_get stored 1 ≡ Some older →
    length older ≡ n
stored_wide n [] older all is = cc
stored_wide n (last ∷ []) older all is = cc
stored_wide n (last ∷ first ∷ rest) older all is = let same : first ≡ older = cc in ap length (sym same) ∙ all 1 [] (omega arith)

-- ---- one time frame

module _ (c : Circuit) (choice : Chosen) (checked : IsChecked c) (p : IsClosed c choice.items) where
  abbrev e : Encoded
  e = encoding_of c choice.items

  abbrev n : ℕ
  n = variables c choice.items

  t : IsTransition c choice.items e
  t = is_transition c choice.items checked p

  -- the literals of the next state and of the signature
  next_from : (state : Seen) → AllByRecursion (λ (l : Literal). first_next c ≤ l.variable) (signed_seen e.next state)
  next_from state = seen_all (λ v. first_next c ≤ v) e.next state (above_numbers (first_next c) (first_next c) (length c.flops) (omega arith))

  next_to : (state : Seen) → AllByRecursion (λ (l : Literal). l.variable < first_item c) (signed_seen e.next state)
  next_to state = seen_all (λ v. v < first_item c) e.next state (below_numbers (first_item c) (first_next c) (length c.flops) (omega arith))

  next_within : (m : ℕ) (state : Seen) → HasVariables m e.next → Ranged m (signed_seen e.next state)
  next_within m state h = seen_all (InRange m) e.next state (recursion_from_All (IsWithin m) e.next h)

  next_distinct : (state : Seen) → has_distinct_variables (signed_seen e.next state) ≡ true
  next_distinct state =
      signed_distinct (at_known state.free e.next) (at_known state.free state.bits)
      (kept_distinct state.free e.next (numbers_distinct (first_next c) (length c.flops)))

  -- what an assignment shows of the next state, at the known places
  next_true : (value : ℕ → Bool) (state : Seen) (there : List Bool) → bits_on value e.next ≡ there → Shows state there →
      AllTrue value (signed_seen e.next state)
  next_true value state there is h = seen_true value e.next state there is h

  next_shown : (value : ℕ → Bool) (state : Seen) → length state.bits ≡ length c.flops → AllTrue value (signed_seen e.next state) →
      Shows state (bits_on value e.next)
  next_shown value state wide h = seen_shown value e.next state (wide ∙ sym t.next_width) h

  signature_from : (stored : List Bool) → AllByRecursion (λ (l : Literal). first_item c ≤ l.variable) (signed e.signatures stored)
  signature_from stored =
      signed_all (λ v. first_item c ≤ v) e.signatures stored (above_items (first_item c) (first_item c) choice.items (omega arith))

  signed_within : (m : ℕ) (ls : List Literal) (bs : List Bool) → HasVariables m ls → Ranged m (signed ls bs)
  signed_within m ls bs h = signed_all (InRange m) ls bs (recursion_from_All (IsWithin m) ls h)

  -- the others' range and apartness, from those of what is said of the cycle before
  others_within : (m : ℕ) (q : Present) (last : Clause) → n ≤ m → Ranged m last →
      Ranged m (signed_seen e.next q.state ++ (signed e.signatures (slice_index_or q.stored 0 []) ++ last))
  others_within m q last le within =
      let wider : (ls : Clause) → Ranged n ls → Ranged m ls =
      λ ls h. weaken (IsWithin n) (IsWithin m) (λ l w. (w.0, omega (arith, w.1, le))) ls h in
      let stored = slice_index_or q.stored 0 [] in
      join (IsWithin m) (signed_seen e.next q.state) (signed e.signatures stored ++ last)
      (wider (signed_seen e.next q.state) (next_within n q.state t.next_range))
      (join (IsWithin m) (signed e.signatures stored) last (wider (signed e.signatures stored) (signed_within n e.signatures stored t.signatures_range)) within)

  others_distinct : (q : Present) (last : Clause) → has_distinct_variables last ≡ true →
      ((v : ℕ) → first_next c ≤ v → v ≤ n → AllByRecursion (λ (m : Literal). m.variable ≡ v → ⊥) last) →
      has_distinct_variables (signed_seen e.next q.state ++ (signed e.signatures (slice_index_or q.stored 0 []) ++ last)) ≡ true
  others_distinct q last distinct apart =
      let stored = slice_index_or q.stored 0 [] in
      let xs : Clause = signed_seen e.next q.state in
      let ys : Clause = signed e.signatures stored in
      let apart_of : (v : ℕ) → first_next c ≤ v → v < first_item c → AllByRecursion (λ (m : Literal). m.variable ≡ v → ⊥) (ys ++ last) =
      λ v low high.
      join (λ (m : Literal). m.variable ≡ v → ⊥) ys last
      (weaken (λ (m : Literal). first_item c ≤ m.variable) (λ (m : Literal). m.variable ≡ v → ⊥) (λ m le same. omega (arith, le, high, same)) ys
      (signature_from stored))
      (apart v low (omega (arith, high))) in
      append_apart xs (ys ++ last)
      (both_weaken (λ (l : Literal). first_next c ≤ l.variable) (λ (l : Literal). l.variable < first_item c)
      (λ (l : Literal). AllByRecursion (λ (m : Literal). m.variable ≡ l.variable → ⊥) (ys ++ last)) (λ l low high. apart_of l.variable low high) xs
      (next_from q.state) (next_to q.state))
      (next_distinct q.state)
      (append_apart ys last
      (both_weaken (λ (l : Literal). first_item c ≤ l.variable) (IsWithin n)
      (λ (l : Literal). AllByRecursion (λ (m : Literal). m.variable ≡ l.variable → ⊥) last)
      (λ l low w. apart l.variable (omega (arith, low)) w.1) ys (signature_from stored) (signed_within n e.signatures stored t.signatures_range))
      (signed_distinct e.signatures stored (items_distinct (first_item c) choice.items)) distinct)
    where
      both_weaken : (P Q R : Literal → Type 0) → ((l : Literal) → P l → Q l → R l) → (ls : Clause) → AllByRecursion P ls → AllByRecursion Q ls →
          AllByRecursion R ls
      both_weaken P Q R f [] h g = tt
      both_weaken P Q R f (l ∷ ls) h g = (f l h.0 g.0, both_weaken P Q R f ls h.1 g.1)

  one_within : (q : Present) → Ranged n (others e q)
  one_within q = others_within n q [] (omega arith) tt

  one_distinct : (q : Present) → has_distinct_variables (others e q) ≡ true
  one_distinct q = others_distinct q [] refl (λ v low high. tt)

  pub one_is_tidy : depth_of choice ≡ 1 → n + 65536 < 2 ^ 30 → IsTidy c choice e
  one_is_tidy one room = record {
    room = room;
    states_width = t.states_width;
    next_width = t.next_width;
    signatures_width = t.signatures_width;
    inputs_width = t.inputs_width;
    clauses_range = t.clauses_range;
    states_range = t.states_range;
    next_range = t.next_range;
    signatures_range = t.signatures_range;
    inputs_range = t.inputs_range;
    one_frame = λ _. refl;
    two_frames = λ two. absurd (omega (arith, one, two));
    older_signatures_width = λ two. absurd (omega (arith, one, two));
    older_states_width = λ two. absurd (omega (arith, one, two));
    older_inputs_width = λ two. absurd (omega (arith, one, two));
    link_range = All-from_recursion (IsWithin n) [] tt;
    older_states_range = All-from_recursion (IsWithin n) [] tt;
    older_inputs_range = All-from_recursion (IsWithin n) [] tt;
    assumptions_range = λ activation q above. with_activation_ranged e activation q above (one_within q);
    block_range = λ state. All-from_recursion (IsWithin n) (block_for e state) (signed_within n e.states (map not state) t.states_range);
    clauses_distinct = t.clauses_distinct;
    assumptions_distinct = λ activation q above. with_activation_distinct e activation q above (one_within q) (one_distinct q);
    block_distinct = λ state. t.states_distinct (map not state);
  }

  pub one_shown : PredecessorsAreShown c choice e
  one_shown r i q s x vars clauses step ls lx ag nx =
      let shows = t.shown s x ls lx in
      let a : ℕ → Bool = shows.value in
      let stored = slice_index_or q.stored 0 [] in
      shown_by e (length c.flops) t.states_width t.clauses_range t.states_range r i q s vars clauses step (one_within q) a
      (recursion_from_All (Satisfies a) e.clauses shows.clauses) shows.state
      (join (λ l. literal_value a l ≡ true) (signed_seen e.next q.state) (signed e.signatures stored ++ [])
      (next_true a q.state (next c s x) shows.next nx)
      (join (λ l. literal_value a l ≡ true) (signed e.signatures stored) [] (signs_true a e.signatures stored
      (shows.signature ∙ last_stored c choice q.stored s ag))
      tt))

  -- what the first time frame shows, of an assignment that meets its clauses and the first assumptions
  module _ (value : ℕ → Bool) (q : Present) (last : Clause) (wide : length q.state.bits ≡ length c.flops)
      (signature_wide : length (slice_index_or q.stored 0 []) ≡ length choice.items) (met : All (Satisfies value) e.clauses)
      (holds : AllTrue value (signed_seen e.next q.state ++ (signed e.signatures (slice_index_or q.stored 0 []) ++ last))) where
    abbrev s : List Bool
    s = bits_on value e.states

    abbrev x : List Bool
    x = bits_on value e.inputs

    abbrev stored : List Bool
    stored = slice_index_or q.stored 0 []

    rest_holds : AllTrue value (signed e.signatures stored ++ last)
    rest_holds = right_all (λ l. literal_value value l ≡ true) (signed_seen e.next q.state) (signed e.signatures stored ++ last) holds

    last_holds : AllTrue value last
    last_holds = right_all (λ l. literal_value value l ≡ true) (signed e.signatures stored) last rest_holds

    state_width : length s ≡ length c.flops
    state_width = length-bits_on value e.states ∙ t.states_width

    input_width : length x ≡ length c.inputs
    input_width = length-bits_on value e.inputs ∙ t.inputs_width

    led : Shows q.state (next c s x)
    led =
        ap (at_known q.state.free) (t.leads value met)
        ∙ next_shown value q.state wide
        (left_all (λ l. literal_value value l ≡ true) (signed_seen e.next q.state) (signed e.signatures stored ++ last) holds)

    signed_as : signature choice s ≡ stored
    signed_as =
        t.agrees value met
        ∙ bits_shown value e.signatures stored (signature_wide ∙ sym t.signatures_width)
        (left_all (λ l. literal_value value l ≡ true) (signed e.signatures stored) last rest_holds)

    first_is_predecessor : (u y : List Bool) (joined : Bool) → agrees c choice q.stored s ≡ true → (depth_of choice ≡ 1 → joined ≡ false) →
        (depth_of choice ≡ 2 → slice_get q.stored 1 ≡ None → (joined ≡ false) × (s ≡ reset_state c)) →
        ((older : List Bool) → depth_of choice ≡ 2 → slice_get q.stored 1 ≡ Some older → (joined ≡ true) × IsBefore c choice older s u y) →
        IsPredecessor c choice q s x u y joined
    first_is_predecessor u y joined agree alone first later =
        let fit = exactly_one_fits c s x checked state_width input_width in
        record {
          state_width = state_width;
          input_width = input_width;
          signature = signed_as;
          agrees = agree;
          next = led;
          leads =
              record {
                there = next c s x;
                leads = (fit.0, fit.1, next_from_fits c s x fit.0 checked state_width input_width fit.1);
                shown = led;
              };
          alone = alone;
          first = first;
          later = later;
        }

  pub one_leads : depth_of choice ≡ 1 → SolutionsArePredecessors c choice e
  one_leads one value activation q wide some widths met assumed =
      let holds = (recursion_from_All (λ l. literal_value value l ≡ true) (assumptions_for e activation q) assumed).1 in
      let first_wide : length (slice_index_or q.stored 0 []) ≡ length choice.items = widths 0 [] some in
      first_is_predecessor value q [] wide first_wide met holds [] [] false
      (agrees_at_one c choice q.stored (bits_on value e.states) one some (signed_as value q [] wide first_wide met holds)) (λ _. refl)
      (λ two _. absurd (omega (arith, one, two)))
      (λ older two _. absurd (omega (arith, one, two)))

  -- ---- two time frames

  module _ (k : IsLinkable e) where
    abbrev E : Encoded
    E = linked (reset_state c) e

    abbrev L : Literal
    L = link_of e

    raised_signature : (older : List Bool) → AllByRecursion (IsIn n (2 * n)) (signed E.older_signatures older)
    raised_signature older =
        signed_all (λ v. (n < v) × (v ≤ 2 * n)) E.older_signatures older
        (raised_in n n (2 * n) e.signatures (recursion_from_All (IsWithin n) e.signatures t.signatures_range) (omega arith))

    at_reset_low : AllByRecursion (IsWithin c.nets) E.at_reset
    at_reset_low =
        signed_all (InRange c.nets) e.states (reset_state c)
        (signs_ranged c.nets true _ (state_vars_ranged c.nets c.nets c.flops (omega arith) (states_in_place c choice.items p)))

    before_within : (o : Option (List Bool)) → Ranged (2 * n + 1) (before_assumed E L o)
    before_within None = (
      (omega arith, omega arith),
      weaken (IsWithin c.nets) (IsWithin (2 * n + 1)) (λ l w. (w.0, omega (arith, w.1))) E.at_reset at_reset_low,
    )
    before_within (Some older) = (
      (omega arith, omega arith),
      weaken (IsIn n (2 * n)) (IsWithin (2 * n + 1)) (λ l w. (omega (arith, w.0), omega (arith, w.1))) (signed E.older_signatures older)
          (raised_signature older),
    )

    before_distinct : (o : Option (List Bool)) → has_distinct_variables (before_assumed E L o) ≡ true
    before_distinct None =
        distinct_cons (negation L) E.at_reset
        (apart_from_each L.variable E.at_reset
        (weaken (IsWithin c.nets) (λ (m : Literal). m.variable ≡ L.variable → ⊥) (λ m w same. omega (arith, w.1, same)) E.at_reset at_reset_low))
        (t.states_distinct (reset_state c))
    before_distinct (Some older) =
        distinct_cons L (signed E.older_signatures older)
        (apart_from_each L.variable (signed E.older_signatures older)
        (weaken (IsIn n (2 * n)) (λ (m : Literal). m.variable ≡ L.variable → ⊥) (λ m w same. omega (arith, w.1, same)) (signed E.older_signatures older)
        (raised_signature older)))
        (ap has_distinct_variables (signed_raised n e.signatures older)
        ∙ (distinct_raised n (signed e.signatures older) ∙ signed_distinct e.signatures older (items_distinct (first_item c) choice.items)))

    before_apart : (o : Option (List Bool)) (v : ℕ) → first_next c ≤ v → v ≤ n →
        AllByRecursion (λ (m : Literal). m.variable ≡ v → ⊥) (before_assumed E L o)
    before_apart None v low high = (
      λ same. omega (arith, high, same),
      weaken (IsWithin c.nets) (λ (m : Literal). m.variable ≡ v → ⊥) (λ m w same. omega (arith, w.1, low, same)) E.at_reset at_reset_low,
    )
    before_apart (Some older) v low high = (
      λ same. omega (arith, high, same),
      weaken (IsIn n (2 * n)) (λ (m : Literal). m.variable ≡ v → ⊥) (λ m w same. omega (arith, w.0, high, same)) (signed E.older_signatures older)
          (raised_signature older),
    )

    two_within : (q : Present) → Ranged (2 * n + 1) (others E q)
    two_within q = others_within (2 * n + 1) q (before_assumed E L (slice_get q.stored 1)) (omega arith) (before_within (slice_get q.stored 1))

    two_distinct : (q : Present) → has_distinct_variables (others E q) ≡ true
    two_distinct q =
        others_distinct q (before_assumed E L (slice_get q.stored 1)) (before_distinct (slice_get q.stored 1)) (before_apart (slice_get q.stored 1))

    wide_range : (ls : List Literal) → HasVariables n ls → HasVariables (2 * n + 1) ls
    wide_range ls h =
        All-from_recursion (IsWithin (2 * n + 1)) ls
        (weaken (IsWithin n) (IsWithin (2 * n + 1)) (λ l w. (w.0, omega (arith, w.1))) ls (recursion_from_All (IsWithin n) ls h))

    high_range : (ls : List Literal) → HasVariables n ls → HasVariables (2 * n + 1) (raised_all n ls)
    high_range ls h =
        All-from_recursion (IsWithin (2 * n + 1)) (raised_all n ls)
        (raised_within n n (2 * n + 1) ls (recursion_from_All (IsWithin n) ls h) (omega arith))

    clauses_range : All (HasVariables (2 * n + 1)) E.clauses
    clauses_range = All-from_recursion (HasVariables (2 * n + 1)) E.clauses (linked_range e k)

    pub two_are_tidy : depth_of choice ≡ 2 → 2 * n + 1 + 65536 < 2 ^ 30 → IsTidy c choice E
    two_are_tidy two room = record {
      room = room;
      states_width = t.states_width;
      next_width = t.next_width;
      signatures_width = t.signatures_width;
      inputs_width = t.inputs_width;
      clauses_range = clauses_range;
      states_range = wide_range e.states t.states_range;
      next_range = wide_range e.next t.next_range;
      signatures_range = wide_range e.signatures t.signatures_range;
      inputs_range = wide_range e.inputs t.inputs_range;
      one_frame = λ one. absurd (omega (arith, one, two));
      two_frames = λ _ none. some_is_none L none;
      older_signatures_width = λ _. length-raised_all n e.signatures ∙ t.signatures_width;
      older_states_width = λ _. length-raised_all n e.states ∙ t.states_width;
      older_inputs_width = λ _. length-raised_all n e.inputs ∙ t.inputs_width;
      link_range = All-from_recursion (IsWithin (2 * n + 1)) (L ∷ []) ((omega arith, omega arith), tt);
      older_states_range = high_range e.states t.states_range;
      older_inputs_range = high_range e.inputs t.inputs_range;
      assumptions_range = λ activation q above. with_activation_ranged E activation q above (two_within q);
      block_range =
          λ state.
          All-from_recursion (IsWithin (2 * n + 1)) (block_for e state)
          (signed_within (2 * n + 1) e.states (map not state) (wide_range e.states t.states_range));
      clauses_distinct =
          All-from_recursion (λ (d : Clause). has_distinct_variables d ≡ true) E.clauses
          (linked_distinct e k (recursion_from_All (λ (d : Clause). has_distinct_variables d ≡ true) e.clauses t.clauses_distinct));
      assumptions_distinct = λ activation q above. with_activation_distinct E activation q above (two_within q) (two_distinct q);
      block_distinct = λ state. t.states_distinct (map not state);
    }
      where
        some_is_none : (l : Literal) → Some l ≡ None → ⊥
        some_is_none l h = cc

    -- the assignment of two time frames shows what that of the first shows
    module _ (f g : ℕ → Bool) (b : Bool) where
      abbrev a : ℕ → Bool
      a = both e k f g b

      first_bits : (ls : List Literal) → HasVariables n ls → bits_on a ls ≡ bits_on f ls
      first_bits ls h = same_bits n a f (first_is e k f g b) ls (recursion_from_All (IsWithin n) ls h)

      second_bits : (ls : List Literal) → HasVariables n ls → bits_on a (raised_all n ls) ≡ bits_on g ls
      second_bits ls h =
          raised_bits a n ls ∙ same_bits n (lowered a n) g (second_is e k f g b) ls (recursion_from_All (IsWithin n) ls h)

    -- a state is shown by the assignment that shows it in the first time frame, and g in the second, where the link suits
    two_from : (r : Problem) (i : ℕ) (q : Present) (s x : List Bool) → r.vars ≡ E.variables → r.clauses ≡ E.clauses →
        slice_get r.steps i ≡ Some (assumptions_for E (activation_of r (i + 1)) q) → (shows : ShowsCycle e s x (next c s x) (signature choice s)) →
        Shows q.state (next c s x) → agrees c choice q.stored s ≡ true → (g : ℕ → Bool) (b : Bool) → AllByRecursion (Satisfies g) e.clauses → (b ≡ true → bits_on g e.next ≡ s) →
        AllTrue (both e k shows.value g b) (before_assumed E L (slice_get q.stored 1)) →
        Shown (record { problem = r; block = block_for E }) (length c.flops) (i + 1) s
    two_from r i q s x vars clauses step shows nx ag g b mg leads last =
        let f : ℕ → Bool = shows.value in
        let v : ℕ → Bool = both e k f g b in
        let stored = slice_index_or q.stored 0 [] in
        let older : Clause = before_assumed E L (slice_get q.stored 1) in
        shown_by E (length c.flops) t.states_width clauses_range (wide_range e.states t.states_range) r i q s vars clauses step (two_within q) v
        (both_met e k f g b (recursion_from_All (Satisfies f) e.clauses shows.clauses) mg (λ on. leads on ∙ sym shows.state))
        (first_bits f g b e.states t.states_range ∙ shows.state)
        (join (λ l. literal_value v l ≡ true) (signed_seen e.next q.state) (signed e.signatures stored ++ older)
        (next_true v q.state (next c s x) (first_bits f g b e.next t.next_range ∙ shows.next) nx)
        (join (λ l. literal_value v l ≡ true) (signed e.signatures stored) older
        (signs_true v e.signatures stored
        (first_bits f g b e.signatures t.signatures_range ∙ (shows.signature ∙ last_stored c choice q.stored s ag))) last))

    pub two_shown : depth_of choice ≡ 2 → PredecessorsAreShown c choice E
    two_shown two r i q s x vars clauses step ls lx ag nx =
        by (slice_get q.stored 1) refl (before_of_agrees c choice q.stored s two ag)
      where
        shows : ShowsCycle e s x (next c s x) (signature choice s)
        shows = t.shown s x ls lx

        f : ℕ → Bool
        f = shows.value

        met : AllByRecursion (Satisfies f) e.clauses
        met = recursion_from_All (Satisfies f) e.clauses shows.clauses

        by : (o : Option (List Bool)) → slice_get q.stored 1 ≡ o → Before c choice o s →
            Shown (record { problem = r; block = block_for E }) (length c.flops) (i + 1) s
        by None is reset =
            let v : ℕ → Bool = both e k f f false in
            let off : literal_value v (negation L) ≡ true = literal_value-negation v L ∙ ap not (link_is e k f f false) in
            two_from r i q s x vars clauses step shows nx ag f false met (λ on. absurd (false≢true on))
            (subst (λ o. AllTrue v (before_assumed E L o)) (sym is)
            (off, signs_true v e.states (reset_state c) (first_bits f f false e.states t.states_range ∙ (shows.state ∙ reset))))
        by (Some older) is before =
            let u : List Bool = before.0 in
            let y : List Bool = before.1 in
            let b : IsBefore c choice older s u y = before.2 in
            let earlier = t.shown u y b.state_width b.input_width in
            let g : ℕ → Bool = earlier.value in
            let v : ℕ → Bool = both e k f g true in
            two_from r i q s x vars clauses step shows nx ag g true (recursion_from_All (Satisfies g) e.clauses earlier.clauses)
            (λ on. earlier.next ∙ b.next)
            (subst (λ o. AllTrue v (before_assumed E L o)) (sym is) (
              link_is e k f g true,
              signs_true v E.older_signatures older (second_bits f g true e.signatures t.signatures_range ∙ (earlier.signature ∙ b.signature)),
            ))

    -- what the second time frame shows
    module _ (value : ℕ → Bool) (q : Present) (widths : All (λ (z : List Bool). length z ≡ length choice.items) q.stored)
        (met : AllByRecursion (Satisfies value) E.clauses) (last : AllTrue value (before_assumed E L (slice_get q.stored 1))) where
      reset_is : slice_get q.stored 1 ≡ None → bits_on value e.states ≡ reset_state c
      reset_is is =
          bits_shown value e.states (reset_state c) (length-map c.flops (λ z. z.reset) ∙ sym t.states_width)
          (subst (λ o. AllTrue value (before_assumed E L o)) is last).1

      before_is : (older : List Bool) → slice_get q.stored 1 ≡ Some older →
          IsBefore c choice older (bits_on value e.states) (bits_on value E.older_states) (bits_on value E.older_inputs)
      before_is older is =
          let low : ℕ → Bool = lowered value n in
          let held = subst (λ o. AllTrue value (before_assumed E L o)) is last in
          let mg : All (Satisfies low) e.clauses = All-from_recursion (Satisfies low) e.clauses (second_met e k value met) in
          let wide : length older ≡ length E.older_signatures =
          stored_wide (length choice.items) q.stored older widths is ∙ sym (length-raised_all n e.signatures ∙ t.signatures_width) in
          record {
            state_width = length-bits_on value E.older_states ∙ (length-raised_all n e.states ∙ t.states_width);
            input_width = length-bits_on value E.older_inputs ∙ (length-raised_all n e.inputs ∙ t.inputs_width);
            signature =
                ap (signature choice) (raised_bits value n e.states)
                ∙ (t.agrees low mg ∙ (sym (raised_bits value n e.signatures) ∙ bits_shown value E.older_signatures older wide held.1));
            next =
                ap (λ (z : List Bool). next c z (bits_on value E.older_inputs)) (raised_bits value n e.states)
                ∙ (ap (next c (bits_on low e.states)) (raised_bits value n e.inputs) ∙ (t.leads low mg ∙ second_leads e k value met held.0));
          }

      before_holds : Before c choice (slice_get q.stored 1) (bits_on value e.states)
      before_holds = by (slice_get q.stored 1) refl
        where
          by : (o : Option (List Bool)) → slice_get q.stored 1 ≡ o → Before c choice o (bits_on value e.states)
          by None is = reset_is is
          by (Some older) is = (bits_on value E.older_states, bits_on value E.older_inputs, before_is older is)

    pub two_lead : depth_of choice ≡ 2 → SolutionsArePredecessors c choice E
    two_lead two value activation q wide some widths met assumed =
        let holds = (recursion_from_All (λ l. literal_value value l ≡ true) (assumptions_for E activation q) assumed).1 in
        let all_met : AllByRecursion (Satisfies value) E.clauses = recursion_from_All (Satisfies value) E.clauses met in
        let first : All (Satisfies value) e.clauses = All-from_recursion (Satisfies value) e.clauses (first_met e k value all_met) in
        let older : Clause = before_assumed E L (slice_get q.stored 1) in
        let first_wide : length (slice_index_or q.stored 0 []) ≡ length choice.items = widths 0 [] some in
        let last : AllTrue value older = last_holds value q older wide first_wide first holds in
        first_is_predecessor value q older wide first_wide first holds (bits_on value E.older_states) (bits_on value E.older_inputs) (literal_value value L)
        (agrees_at_two c choice q.stored (bits_on value e.states) two some (signed_as value q older wide first_wide first holds)
        (before_holds value q widths all_met last))
        (λ one. absurd (omega (arith, one, two)))
        (λ _ is.
        (value_of_negated value L (subst (λ o. AllTrue value (before_assumed E L o)) is last).0, reset_is value q widths all_met last is))
        (λ z _ is. ((subst (λ o. AllTrue value (before_assumed E L o)) is last).0, before_is value q widths all_met last z is))

-- ---- by the depth

by_depth : (P : Encoded → Type 0) (c : Circuit) (choice : Chosen) → IsDepth (depth_of choice) → (depth_of choice ≡ 1 → P (encoding_of c choice.items)) →
    (depth_of choice ≡ 2 → P (linked (reset_state c) (encoding_of c choice.items))) → P (encoding_by c choice)
by_depth P c choice kept one two = by (depth_of choice == 2) refl
  where
    at_one : IsDepth (depth_of choice) → (depth_of choice ≡ 2 → ⊥) → depth_of choice ≡ 1
    at_one (inl is) other = is
    at_one (inr is) other = absurd (other is)

    by : (b : Bool) → (depth_of choice == 2) ≡ b → P (cond b (linked (reset_state c) (encoding_of c choice.items)) (encoding_of c choice.items))
    by true is = two (eqb-true (depth_of choice) 2 is)
    by false is = one (at_one kept (λ same. false≢true (sym is ∙ eq-eqb (depth_of choice) 2 same)))

module _ (c : Circuit) (choice : Chosen) (checked : IsChecked c) (p : IsClosed c choice.items) (kept : IsDepth (depth_of choice))
    (room : 2 * variables c choice.items + 1 + 65536 < 2 ^ 30) where
  linkable : IsLinkable (encoding_of c choice.items)
  linkable = is_linkable c choice.items (encoding_of c choice.items) (is_transition c choice.items checked p) (omega (arith, room))

  pub encoding_is_tidy : IsTidy c choice (encoding_by c choice)
  encoding_is_tidy =
      by_depth (IsTidy c choice) c choice kept (λ one. one_is_tidy c choice checked p one (omega (arith, room)))
      (λ two. two_are_tidy c choice checked p linkable two room)

  pub predecessors_shown : PredecessorsAreShown c choice (encoding_by c choice)
  predecessors_shown =
      by_depth (PredecessorsAreShown c choice) c choice kept (λ one. one_shown c choice checked p) (λ two. two_shown c choice checked p linkable two)

  pub solutions_lead : SolutionsArePredecessors c choice (encoding_by c choice)
  solutions_lead =
      by_depth (SolutionsArePredecessors c choice) c choice kept (λ one. one_leads c choice checked p one)
      (λ two. two_lead c choice checked p linkable two)
