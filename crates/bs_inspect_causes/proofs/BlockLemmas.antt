-- All flip-flops and data inputs of a cycle force a unit.
use Rattle.std.proofs.Common.{◌≡◌, ℕ, zero, suc, ◌<◌, ◌≤◌, ◌+◌, ◌-◌, ◌==◌, Bool, true, false, not, ◌&&◌, List, [], ◌∷◌, ◌++◌, map, length, get_or, Option, Some, None}
use Rattle.std.proofs.Common.{refl, subst, ap, sym, ◌∙◌, ◌⊎◌, inl, inr, ⊎_elim, le_refl, arith}
use Rattle.std.specs.Prelude.{IsTrue, MatchOption, nat_lt}
use Rattle.std.specs.List.{All, AllByRecursion, list_any}
use Rattle.std.proofs.lemmas.Bool.{and_from, cases_lt, eqb-false, eqb-true, false≢true, le-ltb, lt-ltb, ne_eqb, not_from_false, or_cases, or_left, or_parts, or_right}
use Rattle.std.proofs.lemmas.List.Elements.{All-append, All-from_recursion, All-head, All-nil, recursion_from_All}
use Rattle.std.proofs.lemmas.List.Folds.{list_any_none}
use Rattle.bs_net.specs.declared.net.NetId.{NetId}
use Rattle.bs_net.specs.Circuit.{Circuit, Fits, bit_at, shown, state_nets, next_state, next}
use Rattle.bs_net.specs.Netlist.{circuit}
use Rattle.bs_net.proofs.CallerLemmas.{next_from_fits}
use Rattle.bs_net_facts.specs.declared.fact.Fact.{Fact}
use Rattle.bs_net_facts.specs.Facts.{FitsMoment, FitsSome, Follow, Force, HoldsIn, valuation_at}
use Rattle.bs_net_facts.specs.Blocks.{IsBlock, begun, is_earlier, moved, stretch}
use Rattle.bs_net_facts.specs.Seen.{Seen}
use Rattle.bs_net_facts.specs.Sources.{facts_of, sources}
use Rattle.bs_net_facts.proofs.LawLemmas.{fits_there, sources_force}
use Rattle.bs_net_facts.proofs.PassLemmas.{all_left}
use Rattle.bs_inspect_causes.specs.declared.drivers.Drivers.{Drivers}
use Rattle.bs_inspect_causes.specs.Accounts.{has_net, IsRealIn}
use Rattle.bs_inspect_causes.specs.Layers.{ForcesAt, IsReady, IsUnit, marks_net}
use Rattle.bs_inspect_causes.proofs.SourceLemmas.{at_moment, fits_moment, in_states, input_wide, state_wide}

-- ---- the cycle

pub forces_flop : (m : Seen) (at : ℕ) (flop : Bool) (r : Option ℕ) → flop ≡ true → MatchOption r (at ≡ 0) (λ t. t + 1 ≡ at) →
    MatchOption r (at ≡ 0) (ForcesAt m at flop)
forces_flop m at flop None e h = h
forces_flop m at flop (Some t) e h = inr (h, inl e)

pub forces_last : (m : Seen) (at : ℕ) (flop : Bool) (r : Option ℕ) → length m.states ≡ length m.inputs + 1 → at < length m.states →
    length m.states ≤ at + 1 → MatchOption r (at ≡ 0) (λ t. t + 1 ≡ at) → MatchOption r (at ≡ 0) (ForcesAt m at flop)
forces_last m at flop None one lt le h = h
forces_last m at flop (Some t) one lt le h = let last : at ≡ length m.inputs = omega (arith, one, lt, le) in inr (h, inr last)

pub forces_now : (m : Seen) (at : ℕ) (flop : Bool) → flop ≡ false → length m.states ≡ length m.inputs + 1 → at + 1 < length m.states → ForcesAt m at flop at
forces_now m at flop e one lt = let early : at < length m.inputs = omega (arith, one, lt) in inl (refl, (e, early))

pub forces_early : (m : Seen) (d : Drivers) (at : ℕ) (flop : Bool) (t : ℕ) → IsReady m d → at < length m.states → ForcesAt m at flop t → t < length m.inputs
forces_early m d at flop t ready lt (inl h) = h.1.1
forces_early m d at flop t ready lt (inr h) = omega (arith, h.0, lt, ready.way.one_more)

-- ---- a unit

pub no_fact : Fact
no_fact = record { net = record { 0 = 0 }; cycle = 0; bit = false }

pub unit_there : (m : Seen) (d : Drivers) (at : ℕ) (flop : Bool) (facts : List Fact) → IsUnit m d at flop facts → at < length m.states
unit_there m d at flop facts unit =
    subst (λ (t : ℕ). t < length m.states) (unit.at_cycle 0 no_fact unit.some) (unit.real 0 no_fact unit.some).in_time

pub one_more : (m : Seen) (d : Drivers) → IsReady m d → length m.states ≡ length m.inputs + 1
one_more m d ready = ready.way.one_more

moved_facts : (t : ℕ) (facts : List Fact) → AllByRecursion (λ (f : Fact). f.cycle ≡ t) facts → map (moved t) facts ≡ facts
moved_facts t [] h = refl
moved_facts t (f ∷ facts) h =
    let cycle : t ≡ f.cycle = sym h.0 in
    let rest = moved_facts t facts h.1 in
    λ i. record { net = f.net; cycle = cycle i; bit = f.bit } ∷ rest i

pub moved_same : (t : ℕ) (facts : List Fact) → All (λ (f : Fact). f.cycle ≡ t) facts → map (moved t) facts ≡ facts
moved_same t facts h = moved_facts t facts (recursion_from_All (λ (f : Fact). f.cycle ≡ t) facts h)

lasting_one : (at : ℕ) (facts : List Fact) → All (λ (f : Fact). f.cycle ≡ at) facts → stretch facts at (at + 1 - at) ≡ facts
lasting_one at facts h =
    let one : at + 1 - at ≡ suc zero = omega arith in
    let here : at + zero ≡ at = omega arith in
    ap (λ (n : ℕ). stretch facts at n) one ∙ (ap (λ (k : ℕ). map (moved k) facts) here ∙ moved_same at facts h)

-- ---- nets that are shown alike

abbrev head_of : List Bool → Bool
head_of [] = false
head_of (b ∷ bs) = b

abbrev tail_of : List Bool → List Bool
tail_of [] = []
tail_of (b ∷ bs) = bs

same_shown : (v w : List Bool) (nets : List NetId) (n : NetId) → shown w nets ≡ shown v nets → has_net nets n ≡ true → bit_at w n.0 ≡ bit_at v n.0
same_shown v w [] n e h = absurd (false≢true h)
same_shown v w (p ∷ nets) n e h =
    ⊎_elim
    (λ (same : (p.0 == n.0) ≡ true).
    subst (λ (k : ℕ). bit_at w k ≡ bit_at v k) (eqb-true p.0 n.0 same) (ap head_of e))
    (λ (other : has_net nets n ≡ true). same_shown v w nets n (ap tail_of e) other)
    (or_cases (p.0 == n.0) (has_net nets n) h)

-- ---- facts of lists of nets

facts_cycle : (t : ℕ) (nets : List NetId) (bits : List Bool) → AllByRecursion (λ (f : Fact). f.cycle ≡ t) (facts_of nets bits t)
facts_cycle t [] bits = tt
facts_cycle t (n ∷ nets) [] = tt
facts_cycle t (n ∷ nets) (b ∷ bits) = (refl, facts_cycle t nets bits)

facts_apart : (p : NetId) (t : ℕ) (nets : List NetId) (bits : List Bool) → has_net nets p ≡ false →
    AllByRecursion (λ (f : Fact). (p.0 == f.net.0) ≡ false) (facts_of nets bits t)
facts_apart p t [] bits h = tt
facts_apart p t (n ∷ nets) [] h = tt
facts_apart p t (n ∷ nets) (b ∷ bits) h =
    let parts = or_parts (n.0 == p.0) (has_net nets p) h in
    (ne_eqb p.0 n.0 (λ e. eqb-false n.0 p.0 parts.0 (sym e)), facts_apart p t nets bits parts.1)

module _ (m : Seen) (d : Drivers) (at : ℕ) (flop : Bool) (facts : List Fact) (unit : IsUnit m d at flop facts) where
  abbrev c : Circuit
  c = circuit m.net

  -- a block of the unit, by what forces it
  unit_block : (given : List Fact) (on : Bool) → All (IsRealIn m) given →
      All (λ (f : Fact). IsTrue (is_earlier (record { bits = facts; since = at; at = at; given = given; begun = on }) f)) given → (on ≡ true → at ≡ 0) →
      ((vs : List (List Bool)) → length vs ≡ length m.states → Follow c vs →
      All (HoldsIn vs) (given ++ begun (record { bits = facts; since = at; at = at; given = given; begun = on })) → All (HoldsIn vs) facts) →
      IsBlock c m.states m.inputs (record { bits = facts; since = at; at = at; given = given; begun = on })
  unit_block given on real earlier start forced =
      let lasts : stretch facts at (at + 1 - at) ≡ facts = lasting_one at facts unit.at_cycle in
      record {
        real = real;
        shown = subst (λ (fs : List Fact). All (IsRealIn m) fs) (sym lasts) unit.real;
        earlier = earlier;
        some = unit.some;
        in_order = le_refl at;
        start = start;
        forced = record {
          each = λ vs e follow given. subst (λ (fs : List Fact). All (HoldsIn vs) fs) (sym lasts) (forced vs e follow given);
        };
      }

  -- at the first moment
  pub begun_block : (bits given : List Fact) → at ≡ 0 → bits ≡ facts → given ≡ [] →
      IsBlock c m.states m.inputs (record { bits = bits; since = at; at = at; given = given; begun = true })
  begun_block bits given first same none =
      let here : IsBlock c m.states m.inputs (record { bits = facts; since = at; at = at; given = []; begun = true }) =
      unit_block [] true (All-nil (IsRealIn m))
      (All-nil (λ (f : Fact). IsTrue (is_earlier (record { bits = facts; since = at; at = at; given = []; begun = true }) f))) (λ _. first)
      (λ vs e follow given. subst (λ (fs : List Fact). All (HoldsIn vs) fs) (moved_same at facts unit.at_cycle) given) in
      subst (λ (gs : List Fact). IsBlock c m.states m.inputs (record { bits = bits; since = at; at = at; given = gs; begun = true })) (sym none)
      (subst (λ (bs : List Fact). IsBlock c m.states m.inputs (record { bits = bs; since = at; at = at; given = []; begun = true })) (sym same) here)

  module _ (ready : IsReady m d) (t : ℕ) (early : t < length m.inputs) where
    abbrev by_sources : List Fact
    by_sources = sources c m.states m.inputs t

    -- the state behind the cycle stands there
    next_shown : (vs : List (List Bool)) → length vs ≡ length m.states → Follow c vs → All (HoldsIn vs) by_sources →
        shown (valuation_at vs (t + 1)) (state_nets c) ≡ get_or m.states (t + 1) []
    next_shown vs e follow given =
        let v = valuation_at vs t in
        let s = get_or m.states t [] in
        let x = get_or m.inputs t [] in
        let there : Fits c s x v = fits_there c m.states m.inputs t ready.drivers.checked ready.way early vs e follow given in
        let later : t + 1 < length vs = omega (arith, e, early, ready.way.one_more) in
        let lead : shown (valuation_at vs (t + 1)) (state_nets c) ≡ next_state c v = follow.lead t later in
        let loads : next_state c v ≡ next c s x =
        next_from_fits c s x v ready.drivers.checked (state_wide m d t ready (in_states m d t ready early)) (input_wide m d t ready early) there in
        lead ∙ (loads ∙ sym (ready.leads.each t early))

    -- at the last moment it decides each fact of the trace
    last_holds : (vs : List (List Bool)) → length vs ≡ length m.states → Follow c vs → All (HoldsIn vs) by_sources → t + 1 ≡ length m.inputs →
        (f : Fact) → f.cycle ≡ t + 1 → IsRealIn m f → HoldsIn vs f
    last_holds vs e follow given last f same real =
        let w = valuation_at vs (t + 1) in
        let later : t + 1 < length vs = omega (arith, e, early, ready.way.one_more) in
        let some_fit : FitsSome c w = follow.fit (t + 1) later in
        let state : some_fit.state ≡ get_or m.states (t + 1) [] = sym some_fit.fits.state ∙ next_shown vs e follow given in
        let fits : Fits c (get_or m.states (t + 1) []) some_fit.input w =
        subst (λ (s : List Bool). Fits c s some_fit.input w) state some_fit.fits in
        let there : FitsMoment c m.states m.inputs (t + 1) w =
        record { input = some_fit.input; same = λ lt. absurd (omega (arith, lt, last)); fits = fits } in
        real.each (valuation_at vs f.cycle) (subst (λ (k : ℕ). FitsMoment c m.states m.inputs k (valuation_at vs k)) (sym same) there)

    -- and before it each flip-flop
    flop_holds : (vs : List (List Bool)) → length vs ≡ length m.states → Follow c vs → All (HoldsIn vs) by_sources → t + 1 < length m.inputs →
        (f : Fact) → f.cycle ≡ t + 1 → has_net (state_nets c) f.net ≡ true → IsRealIn m f → HoldsIn vs f
    flop_holds vs e follow given before f same is real =
        let w = valuation_at vs (t + 1) in
        let one = fits_moment m d (t + 1) ready before in
        let v : List Bool = one.0 in
        let fits : Fits c (get_or m.states (t + 1) []) (get_or m.inputs (t + 1) []) v = one.1 in
        let there : FitsMoment c m.states m.inputs (t + 1) v = at_moment m (t + 1) v fits in
        let bit : bit_at v f.net.0 ≡ f.bit = real.each v (subst (λ (k : ℕ). FitsMoment c m.states m.inputs k v) (sym same) there) in
        let alike : bit_at w f.net.0 ≡ bit_at v f.net.0 =
        same_shown v w (state_nets c) f.net (next_shown vs e follow given ∙ sym fits.state) is in
        subst (λ (k : ℕ). bit_at (valuation_at vs k) f.net.0 ≡ f.bit) (sym same) (alike ∙ bit)

    next_holds : (vs : List (List Bool)) → length vs ≡ length m.states → Follow c vs → All (HoldsIn vs) by_sources →
        (flop ≡ true) ⊎ (at ≡ length m.inputs) → t + 1 ≡ at → (f : Fact) → f.cycle ≡ at → marks_net d.by_flop f.net ≡ flop → IsRealIn m f → HoldsIn vs f
    next_holds vs e follow given which after f same mark real =
        let cycle : f.cycle ≡ t + 1 = same ∙ sym after in
        let at_last : length m.inputs ≤ t + 1 → HoldsIn vs f = λ le.
        let last : t + 1 ≡ length m.inputs = omega (arith, le, early) in
        last_holds vs e follow given last f cycle real in
        ⊎_elim
        (λ (on : flop ≡ true).
        ⊎_elim
        (λ (before : t + 1 < length m.inputs).
        flop_holds vs e follow given before f cycle (sym (ready.drivers.by_flop.each f.net) ∙ (mark ∙ on)) real)
        at_last
        (cases_lt (t + 1) (length m.inputs)))
        (λ (last : at ≡ length m.inputs). let le : length m.inputs ≤ t + 1 = omega (arith, last, after) in at_last le)
        which

    all_hold : ForcesAt m at flop t → (vs : List (List Bool)) → length vs ≡ length m.states → Follow c vs → All (HoldsIn vs) by_sources →
        All (HoldsIn vs) facts
    all_hold (inl h) vs e follow given = λ k x lt.
        let f : Fact = get_or facts k x in
        let cycle : f.cycle ≡ t = unit.at_cycle k x lt ∙ sym h.0 in
        let forced : Force c (length m.states) by_sources (f ∷ []) =
        (sources_force c m.states m.inputs t ready.drivers.checked ready.way early).0 f cycle (unit.real k x lt) in
        All-head (HoldsIn vs) f [] (forced.each vs e follow given)
    all_hold (inr h) vs e follow given = λ k x lt.
        next_holds vs e follow given h.1 h.0 (get_or facts k x) (unit.at_cycle k x lt) (unit.alike k x lt) (unit.real k x lt)

    sources_cycle : All (λ (f : Fact). f.cycle ≡ t) by_sources
    sources_cycle =
        let P : Fact → Type 0 = λ f. f.cycle ≡ t in
        All-append P (facts_of (state_nets c) (get_or m.states t []) t) (facts_of c.inputs (get_or m.inputs t []) t)
        (All-from_recursion P (facts_of (state_nets c) (get_or m.states t []) t) (facts_cycle t (state_nets c) (get_or m.states t [])))
        (All-from_recursion P (facts_of c.inputs (get_or m.inputs t []) t) (facts_cycle t c.inputs (get_or m.inputs t [])))

    -- none of them is of a net of the unit, where no flip-flop drives these
    sources_apart : flop ≡ false → (p : Fact) → marks_net d.by_flop p.net ≡ flop → marks_net d.by_input p.net ≡ false →
        All (λ (f : Fact). (p.net.0 == f.net.0) ≡ false) by_sources
    sources_apart off p alike driven =
        let P : Fact → Type 0 = λ f. (p.net.0 == f.net.0) ≡ false in
        let no_flop : has_net (state_nets c) p.net ≡ false = sym (ready.drivers.by_flop.each p.net) ∙ (alike ∙ off) in
        let no_input : has_net c.inputs p.net ≡ false = sym (ready.drivers.by_input.each p.net) ∙ driven in
        All-append P (facts_of (state_nets c) (get_or m.states t []) t) (facts_of c.inputs (get_or m.inputs t []) t)
        (All-from_recursion P (facts_of (state_nets c) (get_or m.states t []) t) (facts_apart p.net t (state_nets c) (get_or m.states t []) no_flop))
        (All-from_recursion P (facts_of c.inputs (get_or m.inputs t []) t) (facts_apart p.net t c.inputs (get_or m.inputs t []) no_input))

    all_earlier : ForcesAt m at flop t → (given : List Fact) →
        All (λ (f : Fact). IsTrue (is_earlier (record { bits = facts; since = at; at = at; given = given; begun = false }) f)) by_sources
    all_earlier (inr h) given = λ k x lt.
        let f : Fact = get_or by_sources k x in
        let before : f.cycle < at = omega (arith, sources_cycle k x lt, h.0) in
        or_left (nat_lt f.cycle at) (not (nat_lt at f.cycle) && not (list_any (λ (p : Fact). p.net.0 == f.net.0) facts)) (lt-ltb f.cycle at before)
    all_earlier (inl h) given = λ k x lt.
        let f : Fact = get_or by_sources k x in
        let within : f.cycle ≤ at = omega (arith, sources_cycle k x lt, h.0) in
        let own : list_any (λ (p : Fact). p.net.0 == f.net.0) facts ≡ false =
        list_any_none (λ (p : Fact). p.net.0 == f.net.0) facts
        (λ j y less. sources_apart h.1.0 (get_or facts j y) (unit.alike j y less) (unit.driven j y less) k x lt) in
        or_right (nat_lt f.cycle at) (not (nat_lt at f.cycle) && not (list_any (λ (p : Fact). p.net.0 == f.net.0) facts))
        (and_from (not (nat_lt at f.cycle)) (not (list_any (λ (p : Fact). p.net.0 == f.net.0) facts)) (not_from_false (nat_lt at f.cycle) (le-ltb at f.cycle within))
        (not_from_false (list_any (λ (p : Fact). p.net.0 == f.net.0) facts) own))

    pub sourced_block : (bits given : List Fact) → ForcesAt m at flop t → bits ≡ facts → given ≡ by_sources → All (IsRealIn m) given →
        IsBlock c m.states m.inputs (record { bits = bits; since = at; at = at; given = given; begun = false })
    sourced_block bits given forces same are real =
        let here : IsBlock c m.states m.inputs (record { bits = facts; since = at; at = at; given = given; begun = false }) =
        unit_block given false real
        (subst
        (λ (gs : List Fact). All (λ (f : Fact). IsTrue (is_earlier (record { bits = facts; since = at; at = at; given = given; begun = false }) f)) gs)
        (sym are) (all_earlier forces given))
        (λ on. absurd (false≢true on))
        (λ vs e follow holds.
        all_hold forces vs e follow (subst (λ (gs : List Fact). All (HoldsIn vs) gs) are (all_left (HoldsIn vs) given [] holds))) in
        subst (λ (bs : List Fact). IsBlock c m.states m.inputs (record { bits = bs; since = at; at = at; given = given; begun = false })) (sym same) here
