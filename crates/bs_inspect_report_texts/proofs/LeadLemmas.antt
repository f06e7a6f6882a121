-- Whether the states of a trace lead to one another, and which is the first that does not.
use Rattle.std.proofs.Common.{◌≡◌, ℕ, ◌<◌, ◌≤◌, ◌+◌, Bool, true, false, not, List, [], length, get_or, slice_get, Option, Some, None, refl, ap, sym, subst, ◌∙◌, ⊎_elim, arith}
use Rattle.std.specs.List.{position, position_or_len, range_with_len}
use Rattle.std.proofs.lemmas.Bool.{cases_lt, true≢false}
use Rattle.std.proofs.lemmas.List.FromFn.{get_or-range_with_len, length-range_with_len}
use Rattle.std.proofs.lemmas.List.Sums.{fails_before_first, position_or_len_is}
use Rattle.std.proofs.lemmas.Option.{get_or_from_slice_get}
use Rattle.bs_bits.specs.Bits.{bits_eq}
use Rattle.bs_net.specs.Circuit.{Circuit, next}
use Rattle.bs_inspect_report_texts.specs.Fits.{break_in, leads_at}
use Rattle.bs_inspect_report_texts.proofs.PlaceLemmas.{position_is, position_none, position_past}

-- by what stands at three places
pub leads_there : (c : Circuit) (states inputs : List (List Bool)) (i : ℕ) (s x p : List Bool) (b : Bool) → slice_get states i ≡ Some s →
    slice_get inputs i ≡ Some x → slice_get states (i + 1) ≡ Some p → b ≡ bits_eq p (next c s x) → b ≡ leads_at c states inputs i
leads_there c states inputs i s x p b at_s at_x at_p h =
    let before : s ≡ get_or states i [] = sym (get_or_from_slice_get states i s [] at_s) in
    let input : x ≡ get_or inputs i [] = sym (get_or_from_slice_get inputs i x [] at_x) in
    let after : p ≡ get_or states (i + 1) [] = sym (get_or_from_slice_get states (i + 1) p [] at_p) in
    h ∙ λ k. bits_eq (after k) (next c (before k) (input k))

-- the first states of a trace lead on
pub record LeadBefore (c : Circuit) (states inputs : List (List Bool)) (count : ℕ) : Type 0 where
  pub each : (t : ℕ) → t < count → leads_at c states inputs t ≡ true

pub lead_none : (c : Circuit) (states inputs : List (List Bool)) → LeadBefore c states inputs 0
lead_none c states inputs = record { each = λ t lt. absurd (omega (arith, lt)) }

pub lead_more : (c : Circuit) (states inputs : List (List Bool)) (i : ℕ) → true ≡ leads_at c states inputs i → LeadBefore c states inputs i →
    LeadBefore c states inputs (i + 1)
lead_more c states inputs i is before = record {
  each = λ t lt.
      ⊎_elim
      (λ (less : t < i). before.each t less)
      (λ (le : i ≤ t).
      let same : i ≡ t = omega (arith, lt, le) in
      subst (λ (n : ℕ). leads_at c states inputs n ≡ true) same (sym is))
      (cases_lt t i);
}

abbrev breaks : Circuit → (states inputs : List (List Bool)) → ℕ → Bool
breaks c states inputs t = not (leads_at c states inputs t)

-- at a place of the numbers below a bound stands this number
range_at : (n k : ℕ) → k < n → get_or (range_with_len 0 n) k 0 ≡ k
range_at n k lt = let plain : 0 + k ≡ k = omega arith in get_or-range_with_len 0 n k 0 lt ∙ plain

breaks_at : (c : Circuit) (states inputs : List (List Bool)) (n k : ℕ) (b : Bool) → k < n → breaks c states inputs k ≡ b →
    breaks c states inputs (get_or (range_with_len 0 n) k 0) ≡ b
breaks_at c states inputs n k b lt e = ap (breaks c states inputs) (range_at n k lt) ∙ e

place_of : (c : Circuit) (states inputs : List (List Bool)) (n i : ℕ) → i ≤ n → LeadBefore c states inputs i →
    (i < n → leads_at c states inputs i ≡ false) → position_or_len (breaks c states inputs) (range_with_len 0 n) ≡ i
place_of c states inputs n i le before other =
    let long : length (range_with_len 0 n) ≡ n = length-range_with_len 0 n in
    position_or_len_is (breaks c states inputs) (range_with_len 0 n) i 0 (omega (arith, le, long))
    (λ k lt. breaks_at c states inputs n k false (omega (arith, lt, le)) (ap not (before.each k lt)))
    (λ lt. let below : i < n = omega (arith, lt, long) in breaks_at c states inputs n i true below (ap not (other below)))

pub break_found : (c : Circuit) (states inputs : List (List Bool)) (i : ℕ) → i < length inputs → false ≡ leads_at c states inputs i →
    LeadBefore c states inputs i → Some i ≡ break_in c states inputs
break_found c states inputs i lt is before =
    let at : position_or_len (breaks c states inputs) (range_with_len 0 (length inputs)) ≡ i =
    place_of c states inputs (length inputs) i (omega (arith, lt)) before (λ _. sym is) in
    let long : length (range_with_len 0 (length inputs)) ≡ length inputs = length-range_with_len 0 (length inputs) in
    position_is (breaks c states inputs) (range_with_len 0 (length inputs)) i at (omega (arith, lt, long))

pub break_none : (c : Circuit) (states inputs : List (List Bool)) (i : ℕ) → length inputs ≤ i → LeadBefore c states inputs i → None ≡ break_in c states inputs
break_none c states inputs i le before =
    let all : LeadBefore c states inputs (length inputs) = record { each = λ t lt. before.each t (omega (arith, lt, le)) } in
    let at : position_or_len (breaks c states inputs) (range_with_len 0 (length inputs)) ≡ length inputs =
    place_of c states inputs (length inputs) (length inputs) (omega arith) all (λ lt. absurd (omega (arith, lt))) in
    position_none (breaks c states inputs) (range_with_len 0 (length inputs)) (at ∙ sym (length-range_with_len 0 (length inputs)))

-- ---- where no state is the first that does not

not_off : (b : Bool) → not b ≡ false → b ≡ true
not_off true e = refl
not_off false e = absurd (true≢false e)

pub all_lead : (c : Circuit) (states inputs : List (List Bool)) → None ≡ break_in c states inputs → (t : ℕ) → t < length inputs →
    leads_at c states inputs t ≡ true
all_lead c states inputs e t lt =
    let past : length (range_with_len 0 (length inputs)) ≤ position_or_len (breaks c states inputs) (range_with_len 0 (length inputs)) =
    position_past (breaks c states inputs) (range_with_len 0 (length inputs)) e in
    let long : length (range_with_len 0 (length inputs)) ≡ length inputs = length-range_with_len 0 (length inputs) in
    let off : breaks c states inputs (get_or (range_with_len 0 (length inputs)) t 0) ≡ false =
    fails_before_first (breaks c states inputs) (range_with_len 0 (length inputs)) t 0 (omega (arith, lt, past, long)) in
    not_off (leads_at c states inputs t)
    (ap (breaks c states inputs) (sym (range_at (length inputs) t lt)) ∙ off)
