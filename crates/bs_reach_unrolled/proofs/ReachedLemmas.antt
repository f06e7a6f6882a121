-- What is reached in some cycles is shown by an assignment that meets the unrolled clauses.
use Rattle.std.proofs.Common.{◌≡◌, ℕ, zero, suc, ◌+◌, ◌-◌, ◌*◌, ◌<◌, ◌≤◌, Bool, true, false, List, [], ◌∷◌, ◌++◌, length}
use Rattle.std.proofs.Common.{get_or, replicate, refl, sym, ap, ◌∙◌, ◌⊎◌, inl, inr, arith, subst}
use Rattle.std.specs.Prelude.{IsTrue}
use Rattle.std.specs.List.{AllByRecursion, All, range_with_len, flat_map}
use Rattle.std.proofs.lemmas.Bool.{cases_eq, cases_lt}
use Rattle.std.proofs.lemmas.List.{get_or_past, length-replicate, length-map}
use Rattle.std.proofs.lemmas.List.Elements.{recursion_from_All, All-from_recursion}
use Rattle.std.proofs.lemmas.Nat.{mul-add-lt}
use Rattle.std.proofs.Math.Nat.{suc-mul, mul_comm}
use Rattle.bs_clause.specs.Literal.{literal_value, Satisfies}
use Rattle.bs_clause.specs.Range.{IsWithin, HasVariables}
use Rattle.bs_scan.specs.declared.seen.Seen.{Seen}
use Rattle.bs_scan.specs.Seen.{Shows}
use Rattle.bs_net.specs.Circuit.{Circuit, next, reset_state}
use Rattle.bs_scan.specs.Moments.{Run, state_at}
use Rattle.bs_net.proofs.CallerLemmas.{length_next}
use Rattle.bs_encode.specs.Encoded.{Encoded}
use Rattle.bs_encode.specs.Assuming.{signed, signed_seen}
use Rattle.bs_encode.specs.Cycle.{bits_on, ShowsCycle, IsTransition}
use Rattle.bs_encode.proofs.LiteralLemmas.{signs_true}
use Rattle.bs_encode.proofs.SeenSigns.{seen_true}
use Rattle.bs_encode.proofs.RangeLemmas.{join}
use Rattle.bs_reach_unrolled.specs.Unrolled.{base_of, frame_of, states_at, next_at, links_of, reset_units, unrolled}
use Rattle.bs_reach_unrolled.specs.Laws.{ReachedIsShown}
use Rattle.bs_encode.specs.Frame.{lowered}
use Rattle.bs_encode.proofs.FrameLemmas.{raised_met, raised_bits, links_met, overlay, inside, below, beyond, Agree, still_met, same_bits}
use Rattle.bs_reach_unrolled.proofs.ClauseLemmas.{flat_of, units_met}
use Rattle.bs_reach_unrolled.proofs.SolutionLemmas.{zero_base}

-- ---- one assignment of several

-- each f i on the n variables of time frame i, below k, and g above
abbrev joined : ℕ → (ℕ → ℕ → Bool) → (ℕ → Bool) → ℕ → ℕ → Bool
joined n f g zero = g
joined n f g (suc k) = overlay (k * n) n (f k) (joined n f g k)

frames_below : (n i k w : ℕ) → i < k → 1 ≤ w → w ≤ n → i * n + w ≤ k * n
frames_below n i k w lt low high =
    let less : i * n + (w - 1) < n * k = mul-add-lt i n (w - 1) k lt (omega (arith, low, high)) in
    omega (arith, less, low, mul_comm n k)

joined_at : (n : ℕ) (f : ℕ → ℕ → Bool) (g : ℕ → Bool) (k i w : ℕ) → i < k → 1 ≤ w → w ≤ n → joined n f g k (i * n + w) ≡ f i w
joined_at n f g zero i w lt low high = absurd (omega (arith, lt))
joined_at n f g (suc k) i w lt low high = elim (cases_eq i k) [
  | inl same ↦
      inside (k * n) n (f k) (joined n f g k) (i * n + w) w (ap (λ (m : ℕ). m * n + w) same) low high ∙ ap (λ (m : ℕ). f m w) (sym same)
  | inr other ↦
      let less : i < k = omega (arith, lt, other) in
      below (k * n) n (f k) (joined n f g k) (i * n + w) (frames_below n i k w less low high) ∙ joined_at n f g k i w less low high
]

joined_above : (n : ℕ) (f : ℕ → ℕ → Bool) (g : ℕ → Bool) (k v : ℕ) → k * n < v → joined n f g k v ≡ g v
joined_above n f g zero v lt = refl
joined_above n f g (suc k) v lt =
    let more : suc k * n ≡ k * n + n = suc-mul k n in
    beyond (k * n) n (f k) (joined n f g k) v (omega (arith, lt, more)) ∙ joined_above n f g k v (omega (arith, lt, more))

-- ---- the states under inputs that go on for ever

abbrev run : Circuit → (ℕ → List Bool) → ℕ → List Bool
run c x zero = reset_state c
run c x (suc i) = next c (run c x i) (x i)

run_width : (c : Circuit) (x : ℕ → List Bool) (i : ℕ) → length (run c x i) ≡ length c.flops
run_width c x zero = length-map c.flops (λ f. f.reset)
run_width c x (suc i) = length_next c (run c x i) (x i)

-- the inputs, and then zeros
abbrev zeros_of : Circuit → List Bool
zeros_of c = replicate (length c.inputs) false

abbrev input_at : Circuit → List (List Bool) → ℕ → List Bool
input_at c inputs i = get_or inputs i (zeros_of c)

input_width : (c : Circuit) (inputs : List (List Bool)) → All (λ (x : List Bool). length x ≡ length c.inputs) inputs → (i : ℕ) →
    length (input_at c inputs i) ≡ length c.inputs
input_width c inputs widths i = by (cases_lt i (length inputs))
  where
    by : (i < length inputs) ⊎ (length inputs ≤ i) → length (input_at c inputs i) ≡ length c.inputs
    by (inl lt) = widths i (zeros_of c) lt
    by (inr le) = ap length (get_or_past inputs i (zeros_of c) le) ∙ length-replicate (length c.inputs) false

-- inside the list the default does not matter
any : (xs : List (List Bool)) (k : ℕ) (d o : List Bool) → k < length xs → get_or xs k d ≡ get_or xs k o
any [] k d o h = absurd (omega (arith, h))
any (x ∷ xs) zero d o h = refl
any (x ∷ xs) (suc k) d o h = any xs k d o (omega (arith, h))

as_run : (c : Circuit) (inputs : Run) (i : ℕ) → i ≤ length inputs → state_at c inputs i ≡ run c (input_at c inputs) i
unfolding state_at
as_run c inputs zero le = refl
as_run c inputs (suc i) le =
    ap (λ (s : List Bool). next c s (get_or inputs i [])) (as_run c inputs i (omega (arith, le)))
    ∙ ap (next c (run c (input_at c inputs) i)) (any inputs i [] (zeros_of c) (omega (arith, le)))

-- ---- the assignment

module _ (c : Circuit) (e : Encoded) (t : IsTransition c [] e) (x : ℕ → List Bool) (wide : (i : ℕ) → length (x i) ≡ length c.inputs) (others : ℕ →
    Bool) (k : ℕ) where
  abbrev n : ℕ
  n = e.variables

  cycle : (i : ℕ) → ShowsCycle e (run c x i) (x i) (run c x (suc i)) []
  cycle i = t.shown (run c x i) (x i) (run_width c x i) (wide i)

  value : ℕ → Bool
  value = joined n (λ i. (cycle i).value) others k

  agrees : (i : ℕ) → i < k → Agree n (lowered value (base_of e i)) (cycle i).value
  unfolding value
  agrees i lt w low high = joined_at n (λ j. (cycle j).value) others k i w lt low high

  above : (v : ℕ) → k * n < v → value v ≡ others v
  unfolding value
  above v lt = joined_above n (λ i. (cycle i).value) others k v lt

  frame_met : (i : ℕ) → i < k → AllByRecursion (Satisfies value) (frame_of e i)
  frame_met i lt =
      raised_met value (base_of e i) e.clauses
      (still_met n (lowered value (base_of e i)) (cycle i).value (agrees i lt) e.clauses (recursion_from_All (HasVariables n) e.clauses t.clauses_range)
      (recursion_from_All (Satisfies (cycle i).value) e.clauses (cycle i).clauses))

  state_is : (i : ℕ) → i < k → bits_on value (states_at e i) ≡ run c x i
  state_is i lt =
      raised_bits value (base_of e i) e.states
      ∙ (same_bits n (lowered value (base_of e i)) (cycle i).value (agrees i lt) e.states
      (recursion_from_All (IsWithin n) e.states t.states_range) ∙ (cycle i).state)

  next_is : (i : ℕ) → i < k → bits_on value (next_at e i) ≡ run c x (suc i)
  next_is i lt =
      raised_bits value (base_of e i) e.next
      ∙ (same_bits n (lowered value (base_of e i)) (cycle i).value (agrees i lt) e.next (recursion_from_All (IsWithin n) e.next t.next_range) ∙ (cycle i).next)

  links_are_met : (i : ℕ) → i + 1 < k → AllByRecursion (Satisfies value) (links_of e i)
  links_are_met i lt =
      let one : suc i ≡ i + 1 = omega arith in
      links_met value (next_at e i) (states_at e (i + 1)) (next_is i (omega (arith, lt)) ∙ (ap (run c x) one ∙ sym (state_is (i + 1) lt)))

  reset_is_met : (m : ℕ) → m ≤ k → AllByRecursion (Satisfies value) (reset_units e (reset_state c) m)
  reset_is_met zero le = tt
  reset_is_met (suc m) le =
      units_met value (signed e.states (reset_state c))
      (signs_true value e.states (reset_state c) (sym (zero_base value n e.states)
      ∙ (sym (raised_bits value (base_of e 0) e.states) ∙ state_is 0 (omega (arith, le)))))

  all_met : AllByRecursion (Satisfies value) (unrolled e (reset_state c) k)
  all_met =
      join (Satisfies value) (flat_map (frame_of e) (range_with_len 0 k)) (reset_units e (reset_state c) k ++ flat_map (links_of e) (range_with_len 0 (k - 1)))
      (flat_of (Satisfies value) (frame_of e) k frame_met)
      (join (Satisfies value) (reset_units e (reset_state c) k) (flat_map (links_of e) (range_with_len 0 (k - 1)))
      (reset_is_met k (omega arith))
      (flat_of (Satisfies value) (links_of e) (k - 1) (λ i lt. links_are_met i (omega (arith, lt)))))

  pub shows_run : (j : ℕ) (p : Seen) → j < k → Shows p (run c x (suc j)) →
      (a : ℕ → Bool) × All (Satisfies a) (unrolled e (reset_state c) k) × All (λ l. literal_value a l ≡ true) (signed_seen (next_at e j) p) × ((v : ℕ) → k * n < v →
      a v ≡ others v)
  shows_run j p lt is = (
    value,
    All-from_recursion (Satisfies value) (unrolled e (reset_state c) k) all_met,
    All-from_recursion (λ l. literal_value value l ≡ true) (signed_seen (next_at e j) p) (seen_true value (next_at e j) p (run c x (suc j)) (next_is j lt) is),
    above,
  )

pub reached_is_shown : (c : Circuit) (e : Encoded) → IsTransition c [] e → ReachedIsShown c e
reached_is_shown c e t k zero p others one few r = absurd (omega (arith, one))
reached_is_shown c e t k (suc j) p others one few r =
    let x : ℕ → List Bool = input_at c r.inputs in
    let ends : Shows p (run c x (suc j)) = subst (Shows p) (as_run c r.inputs (suc j) (omega (arith, r.count))) r.ends in
    let back : j ≡ suc j - 1 = omega arith in
    let shown = shows_run c e t x (input_width c r.inputs r.widths) others k j p few ends in
    record {
      value = shown.0;
      clauses = shown.1;
      next = subst (λ (m : ℕ). All (λ l. IsTrue (literal_value shown.0 l)) (signed_seen (next_at e m) p)) back shown.2;
      above = shown.3;
    }
