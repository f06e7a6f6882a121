-- A mark at a place, and whether some item has this place.
use Rattle.std.proofs.Common.{◌≡◌, ℕ, zero, suc, arith, refl, Bool, true, false, ◌<◌, ◌≤◌, ◌+◌, ◌==◌, ◌||◌, List, [], ◌∷◌, length, map, get_or, sym, ◌∙◌}
use Rattle.std.specs.Prelude.{nat_lt}
use Rattle.std.specs.List.{All, list_any, range_with_len}
use Rattle.std.proofs.lemmas.Bool.{eqb-true, ltb-false, ltb-true}
use Rattle.bs_scan.specs.Choice.{Chosen, IsChoice}
use Rattle.bs_inspect_html.specs.Law.{MarksAreReads}
use Rattle.bs_inspect_html.specs.Reads.{has_flop, is_read, reads_of}

-- ---- places behind the last flip-flop

other_flop : (flop place : ℕ) (b : Bool) → flop == place ≡ b → flop < place → b ≡ false
other_flop flop place true e lt = let same : flop ≡ place = eqb-true flop place e in absurd (omega (arith, same, lt))
other_flop flop place false e lt = refl

none_has : (item : List ℕ) (width place : ℕ) → width ≤ place → All (λ flop. flop < width) item → has_flop item place ≡ false
none_has [] width place le each = refl
none_has (f ∷ fs) width place le each =
    let below : f < width = each 0 f (omega arith) in
    let own : f == place ≡ false = other_flop f place (f == place) refl (omega (arith, below, le)) in
    let rest : has_flop fs place ≡ false = none_has fs width place le (λ i d lt. each (suc i) d (omega (arith, lt))) in
    λ i. own i || rest i

none_reads : (items : List (List ℕ)) (width place : ℕ) → width ≤ place → All (λ item. All (λ flop. flop < width) item) items →
    is_read items place ≡ false
none_reads [] width place le each = refl
none_reads (x ∷ xs) width place le each =
    let own : has_flop x place ≡ false = none_has x width place le (each 0 x (omega arith)) in
    let rest : is_read xs place ≡ false = none_reads xs width place le (λ i d lt. each (suc i) d (omega (arith, lt))) in
    λ i. own i || rest i

-- ---- the bit of a place

bit_past : (f : ℕ → Bool) (a n place : ℕ) → n ≤ place → get_or (map f (range_with_len a n)) place false ≡ false
bit_past f a zero place le = refl
bit_past f a (suc n) zero le = absurd (omega (arith, le))
bit_past f a (suc n) (suc place) le = bit_past f (a + 1) n place (omega (arith, le))

bit_there : (f : ℕ → Bool) (a n place : ℕ) → place < n → get_or (map f (range_with_len a n)) place false ≡ f (a + place)
bit_there f a zero place lt = absurd (omega (arith, lt))
bit_there f a (suc n) zero lt = let same : a ≡ a + 0 = omega arith in λ i. f (same i)
bit_there f a (suc n) (suc place) lt =
    let same : a + 1 + place ≡ a + suc place = omega arith in bit_there f (a + 1) n place (omega (arith, lt)) ∙ (λ i. f (same i))

mark_at : (choice : Chosen) (place : ℕ) → IsChoice choice → get_or (reads_of choice) place false ≡ is_read choice.items place
mark_at choice place is = by (nat_lt place choice.width) refl
  where
    by : (b : Bool) → nat_lt place choice.width ≡ b → get_or (reads_of choice) place false ≡ is_read choice.items place
    by true e =
        let same : 0 + place ≡ place = omega arith in
        bit_there (is_read choice.items) 0 choice.width place (ltb-true _ _ e) ∙ (λ i. is_read choice.items (same i))
    by false e =
        let le : choice.width ≤ place = ltb-false _ _ e in
        bit_past (is_read choice.items) 0 choice.width place le ∙ sym (none_reads choice.items choice.width place le is.in_range)

-- ---- all places of a signal

any_same : (p q : ℕ → Bool) → ((n : ℕ) → p n ≡ q n) → (places : List ℕ) → list_any p places ≡ list_any q places
any_same p q same [] = refl
any_same p q same (n ∷ ns) = let rest = any_same p q same ns in λ i. same n i || rest i

pub marks_are_reads : MarksAreReads
marks_are_reads choice places is =
    record { is = any_same (λ n. get_or (reads_of choice) n false) (is_read choice.items) (λ n. mark_at choice n is) places }
