-- Every assignment that meets the unrolled clauses shows executions.
use Rattle.std.proofs.Common.{◌≡◌, ℕ, zero, suc, ◌+◌, ◌-◌, ◌*◌, ◌<◌, ◌≤◌, Bool, true, List, [], ◌∷◌, ◌++◌, map, length, get_or, refl, sym, ap, ◌∙◌, arith}
use Rattle.std.proofs.Common.{subst, zero-add}
use Rattle.std.specs.List.{AllByRecursion, range_with_len, flat_map}
use Rattle.std.proofs.lemmas.List.Elements.{recursion_from_All, All-from_recursion}
use Rattle.std.proofs.lemmas.List.FromFn.{length-map-range_with_len, get_or-map-range_with_len, map-range_with_len_more}
use Rattle.bs_clause.specs.Literal.{Literal, Clause, literal_value, Satisfies}
use Rattle.bs_scan.specs.declared.seen.Seen.{Seen}
use Rattle.bs_scan.specs.Seen.{Shows}
use Rattle.bs_net.specs.Circuit.{Circuit, next, reset_state}
use Rattle.bs_scan.specs.Moments.{Run, state_at}
use Rattle.bs_encode.specs.Encoded.{Encoded}
use Rattle.bs_encode.specs.Assuming.{signed, signed_seen}
use Rattle.bs_encode.specs.Cycle.{bits_on, IsTransition}
use Rattle.bs_encode.proofs.DistinctLemmas.{left_all, right_all}
use Rattle.bs_encode.proofs.LiteralLemmas.{AllTrue, bits_shown}
use Rattle.bs_encode.proofs.SeenSigns.{seen_shown}
use Rattle.bs_reach_unrolled.specs.Execution.{IsExecution}
use Rattle.bs_reach_unrolled.specs.Unrolled.{base_of, frame_of, states_at, inputs_at, next_at, links_of, reset_units, unrolled}
use Rattle.bs_reach_unrolled.specs.Laws.{inputs_shown, SolutionsAreExecutions}
use Rattle.bs_encode.specs.Frame.{lowered}
use Rattle.bs_encode.proofs.FrameLemmas.{lowered_met, raised_bits, length-bits_on, length-raised_all, links_say}
use Rattle.bs_reach_unrolled.proofs.ClauseLemmas.{part_of_flat, units_say}

-- ---- states that follow each other

same_map : (f g : ℕ → List Bool) (n m : ℕ) → ((i : ℕ) → m ≤ i → i < m + n → f i ≡ g i) → map f (range_with_len m n) ≡ map g (range_with_len m n)
same_map f g zero m same = refl
same_map f g (suc n) m same =
    ap (λ (x : List Bool). x ∷ map f (range_with_len (m + 1) n)) (same m (omega arith) (omega arith))
    ∙ ap (λ (xs : List (List Bool)). g m ∷ xs) (same_map f g n (m + 1) (λ i from to. same i (omega (arith, from)) (omega (arith, to))))

module _ (c : Circuit) (S X N : ℕ → List Bool) (j : ℕ) (start : S 0 ≡ reset_state c) (steps : (i : ℕ) → i < suc j → next c (S i) (X i) ≡ N i)
    (joins : (i : ℕ) → i + 1 < suc j → N i ≡ S (i + 1)) where
  abbrev xs : Run
  xs = map X (range_with_len 0 (suc j))

  input_is : (i : ℕ) → i < suc j → get_or xs i [] ≡ X i
  input_is i lt = get_or-map-range_with_len X 0 (suc j) i i [] lt (zero-add i)

  -- from the state of a time frame to its next state
  steps_on : (i : ℕ) → i < suc j → state_at c xs i ≡ S i → state_at c xs (suc i) ≡ N i
  unfolding state_at
  steps_on i lt here = ap (λ (s : List Bool). next c s (get_or xs i [])) here ∙ (ap (next c (S i)) (input_is i lt) ∙ steps i lt)

  state_is : (i : ℕ) → i < suc j → state_at c xs i ≡ S i
  unfolding state_at
  state_is zero lt = sym start
  state_is (suc i) lt =
      let one : i + 1 ≡ suc i = omega arith in
      steps_on i (omega (arith, lt)) (state_is i (omega (arith, lt))) ∙ (joins i (omega (arith, lt)) ∙ ap S one)

  pub run_ends : state_at c xs (suc j) ≡ N j
  run_ends = steps_on j (omega arith) (state_is j (omega arith))

  pub run_states : map S (range_with_len 0 (suc j)) ++ N j ∷ [] ≡ map (state_at c xs) (range_with_len 0 (suc j + 1))
  run_states =
      ap (λ (ss : List (List Bool)). ss ++ N j ∷ []) (same_map S (state_at c xs) (suc j) 0 (λ i from to. sym (state_is i (omega (arith, to)))))
      ∙ (ap (λ (s : List Bool). map (state_at c xs) (range_with_len 0 (suc j)) ++ s ∷ []) (sym run_ends)
      ∙ sym (map-range_with_len_more (state_at c xs) 0 (suc j) (suc j) (zero-add (suc j))))

-- ---- what the time frames show

widths_of : (X : ℕ → List Bool) (n : ℕ) → ((i : ℕ) → length (X i) ≡ n) → (ks : List ℕ) → AllByRecursion (λ (x : List Bool). length x ≡ n) (map X ks)
widths_of X n each [] = tt
widths_of X n each (k ∷ ks) = (each k, widths_of X n each ks)

pub zero_base : (a : ℕ → Bool) (n : ℕ) (ls : List Literal) → bits_on (lowered a (0 * n)) ls ≡ bits_on a ls
zero_base a n [] = refl
zero_base a n (l ∷ ls) =
    let same : 0 * n + l.variable ≡ l.variable = omega arith in
    ap (λ b. b ∷ bits_on (lowered a (0 * n)) ls) (ap a same) ∙ ap (λ bs. a l.variable ∷ bs) (zero_base a n ls)

module _ (c : Circuit) (e : Encoded) (t : IsTransition c [] e) (a : ℕ → Bool) where
  abbrev S : ℕ → List Bool
  S i = bits_on a (states_at e i)

  abbrev X : ℕ → List Bool
  X i = bits_on a (inputs_at e i)

  abbrev N : ℕ → List Bool
  N i = bits_on a (next_at e i)

  frame_leads : (i : ℕ) → AllByRecursion (Satisfies a) (frame_of e i) → next c (S i) (X i) ≡ N i
  frame_leads i met =
      let low : ℕ → Bool = lowered a (base_of e i) in
      let one : next c (bits_on low e.states) (bits_on low e.inputs) ≡ bits_on low e.next =
      t.leads low (All-from_recursion (Satisfies low) e.clauses (lowered_met a (base_of e i) e.clauses met)) in
      ap (λ (s : List Bool). next c s (X i)) (raised_bits a (base_of e i) e.states)
      ∙ (ap (next c (bits_on low e.states)) (raised_bits a (base_of e i) e.inputs) ∙ (one ∙ sym (raised_bits a (base_of e i) e.next)))

  frames_join : (i : ℕ) → AllByRecursion (Satisfies a) (links_of e i) → N i ≡ S (i + 1)
  frames_join i met =
      links_say a (next_at e i) (states_at e (i + 1))
      (length-raised_all (base_of e i) e.next ∙ (t.next_width ∙ (sym t.states_width ∙ sym (length-raised_all (base_of e (i + 1)) e.states)))) met

  starts : (k : ℕ) → AllByRecursion (Satisfies a) (reset_units e (reset_state c) (suc k)) → length e.states ≡ length (reset_state c) → S 0 ≡ reset_state c
  starts k met wide =
      raised_bits a (base_of e 0) e.states ∙ (zero_base a e.variables e.states
      ∙ bits_shown a e.states (reset_state c) (sym wide) (units_say a (signed e.states (reset_state c)) met))

  shown_execution : (k j : ℕ) (p : Seen) → suc j ≤ suc k → AllByRecursion (Satisfies a) (unrolled e (reset_state c) (suc k)) →
      AllTrue a (signed_seen (next_at e j) p) → length p.bits ≡ length c.flops → length (reset_state c) ≡ length c.flops →
      IsExecution c (suc j) p (map S (range_with_len 0 (suc j)) ++ N j ∷ []) (map X (range_with_len 0 (suc j)))
  shown_execution k j p few met ends wide reset_wide =
      let n : ℕ = suc k in
      let cs : List Clause = flat_map (frame_of e) (range_with_len 0 n) in
      let us : List Clause = reset_units e (reset_state c) n in
      let ks : List Clause = flat_map (links_of e) (range_with_len 0 (n - 1)) in
      let frames : AllByRecursion (Satisfies a) cs = left_all (Satisfies a) cs (us ++ ks) met in
      let others : AllByRecursion (Satisfies a) (us ++ ks) = right_all (Satisfies a) cs (us ++ ks) met in
      let steps : (i : ℕ) → i < suc j → next c (S i) (X i) ≡ N i =
      λ i to. frame_leads i (part_of_flat (Satisfies a) (frame_of e) n frames i (omega (arith, to, few))) in
      let joins : (i : ℕ) → i + 1 < suc j → N i ≡ S (i + 1) =
      λ i to. frames_join i (part_of_flat (Satisfies a) (links_of e) (n - 1) (right_all (Satisfies a) us ks others) i (omega (arith, to, few))) in
      let start : S 0 ≡ reset_state c = starts k (left_all (Satisfies a) us ks others) (t.states_width ∙ sym reset_wide) in
      let xs : Run = map X (range_with_len 0 (suc j)) in
      let end : Shows p (N j) = seen_shown a (next_at e j) p (wide ∙ (sym t.next_width ∙ sym (length-raised_all (base_of e j) e.next))) ends in
      record {
        count = length-map-range_with_len X 0 (suc j);
        widths =
            All-from_recursion (λ (x : List Bool). length x ≡ length c.inputs) xs
            (widths_of X (length c.inputs) (λ i. length-bits_on a (inputs_at e i) ∙ (length-raised_all (base_of e i) e.inputs ∙ t.inputs_width))
            (range_with_len 0 (suc j)));
        states_are = run_states c S X N j start steps joins;
        ends = subst (Shows p) (sym (run_ends c S X N j start steps joins)) end;
      }

pub solutions_are_executions : (c : Circuit) (e : Encoded) → IsTransition c [] e → length (reset_state c) ≡ length c.flops → SolutionsAreExecutions c e
solutions_are_executions c e t reset_wide k zero a p one few met ends wide = absurd (omega (arith, one))
solutions_are_executions c e t reset_wide zero (suc j) a p one few met ends wide = absurd (omega (arith, few))
solutions_are_executions c e t reset_wide (suc k) (suc j) a p one few met ends wide =
    let back : suc j - 1 ≡ j = omega arith in
    let last : AllTrue a (signed_seen (next_at e j) p) =
    subst (λ (m : ℕ). AllTrue a (signed_seen (next_at e m) p)) back
    (recursion_from_All (λ l. literal_value a l ≡ true) (signed_seen (next_at e (suc j - 1)) p) ends) in
    let found = shown_execution c e t a k j p few (recursion_from_All (Satisfies a) (unrolled e (reset_state c) (suc k)) met) last wide reset_wide in
    subst
    (λ (m : ℕ). IsExecution c (suc j) p (map (λ i. bits_on a (states_at e i)) (range_with_len 0 (suc j)) ++ bits_on a (next_at e m) ∷ [])
    (inputs_shown e a (suc j)))
    (sym back) found
