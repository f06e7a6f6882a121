-- What the parts of a list, and units, say of an assignment.
use Rattle.std.proofs.Common.{◌≡◌, ℕ, ◌<◌, Bool, true, false, ◌||◌, List, [], ◌∷◌, map, refl, sym, ◌∙◌}
use Rattle.std.specs.List.{AllByRecursion, range_with_len, flat_map}
use Rattle.bs_clause.specs.Literal.{Literal, literal_value, Satisfies}
use Rattle.bs_net.proofs.NextLemmas.{below_from_range, range_from_below}
use Rattle.bs_encode.proofs.RangeLemmas.{join}
use Rattle.bs_encode.proofs.DistinctLemmas.{left_all, right_all}
use Rattle.bs_encode.proofs.LiteralLemmas.{AllTrue}

-- ---- lists of parts

parts_of_flat : {X : Type 0} (P : X → Type 0) (f : ℕ → List X) (ks : List ℕ) → AllByRecursion P (flat_map f ks) →
    AllByRecursion (λ k. AllByRecursion P (f k)) ks
parts_of_flat P f [] h = tt
parts_of_flat P f (k ∷ ks) h = (left_all P (f k) (flat_map f ks) h, parts_of_flat P f ks (right_all P (f k) (flat_map f ks) h))

flat_of_parts : {X : Type 0} (P : X → Type 0) (f : ℕ → List X) (ks : List ℕ) → AllByRecursion (λ k. AllByRecursion P (f k)) ks →
    AllByRecursion P (flat_map f ks)
flat_of_parts P f [] h = tt
flat_of_parts P f (k ∷ ks) h = join P (f k) (flat_map f ks) h.0 (flat_of_parts P f ks h.1)

pub part_of_flat : {X : Type 0} (P : X → Type 0) (f : ℕ → List X) (n : ℕ) → AllByRecursion P (flat_map f (range_with_len 0 n)) → (k : ℕ) → k < n →
    AllByRecursion P (f k)
part_of_flat P f n h = below_from_range (λ k. AllByRecursion P (f k)) n (parts_of_flat P f (range_with_len 0 n) h)

pub flat_of : {X : Type 0} (P : X → Type 0) (f : ℕ → List X) (n : ℕ) → ((k : ℕ) → k < n → AllByRecursion P (f k)) →
    AllByRecursion P (flat_map f (range_with_len 0 n))
flat_of P f n h = flat_of_parts P f (range_with_len 0 n) (range_from_below (λ k. AllByRecursion P (f k)) n h)

-- ---- units

or_false : (b : Bool) → (b || false) ≡ b
or_false true = refl
or_false false = refl

pub units_say : (a : ℕ → Bool) (ls : List Literal) → AllByRecursion (Satisfies a) (map (λ (l : Literal). l ∷ []) ls) → AllTrue a ls
units_say a [] h = tt
units_say a (l ∷ ls) h = (sym (or_false (literal_value a l)) ∙ h.0, units_say a ls h.1)

pub units_met : (a : ℕ → Bool) (ls : List Literal) → AllTrue a ls → AllByRecursion (Satisfies a) (map (λ (l : Literal). l ∷ []) ls)
units_met a [] h = tt
units_met a (l ∷ ls) h = (or_false (literal_value a l) ∙ h.0, units_met a ls h.1)
