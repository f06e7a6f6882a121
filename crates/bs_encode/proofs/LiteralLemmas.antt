-- The bits that an assignment shows on literals.
use Rattle.std.proofs.Common.{◌≡◌, ℕ, Bool, true, false, not, List, [], ◌∷◌, map, length, refl, ap, ◌∙◌, arith, subst}
use Rattle.std.specs.Bool.{beq}
use Rattle.std.specs.List.{AllByRecursion, list_any}
use Rattle.std.proofs.lemmas.Bool.{true≢false, or_parts}
use Rattle.std.proofs.lemmas.List.{length-map}
use Rattle.bs_clause.specs.Literal.{Clause, literal_value}
use Rattle.bs_clause.proofs.Literals.{beq-true}
use Rattle.bs_encode.specs.Tables.{lit}
use Rattle.bs_encode.specs.Encoded.{literals}
use Rattle.bs_encode.specs.Assuming.{signed}
use Rattle.bs_encode.specs.Cycle.{bits_on}
use Rattle.bs_encode.proofs.TableLemmas.{beq-refl}

pub length-literals : (vs : List ℕ) → length (literals vs) ≡ length vs
length-literals vs = length-map vs (λ v. lit v true)

-- ---- the bits that an assignment shows on literals

pub bits_of_literals : (a : ℕ → Bool) (vs : List ℕ) → bits_on a (literals vs) ≡ map a vs
bits_of_literals a [] = refl
bits_of_literals a (v ∷ vs) = ap (λ bs. a v ∷ bs) (bits_of_literals a vs)

abbrev pub AllTrue : (ℕ → Bool) → Clause → Type 0
AllTrue a c = AllByRecursion (λ l. literal_value a l ≡ true) c

pub own_signs : (a : ℕ → Bool) (c : Clause) → AllTrue a (signed c (bits_on a c))
own_signs a [] = tt
own_signs a (l ∷ c) = (beq-refl (a l.variable), own_signs a c)

pub signs_true : (a : ℕ → Bool) (c : Clause) (bs : List Bool) → bits_on a c ≡ bs → AllTrue a (signed c bs)
signs_true a c bs is = let P : List Bool → Type 0 = λ xs. AllTrue a (signed c xs) in subst P is (own_signs a c)

pub bits_shown : (a : ℕ → Bool) (c : Clause) (bs : List Bool) → length bs ≡ length c → AllTrue a (signed c bs) → bits_on a c ≡ bs
bits_shown a [] [] wide h = refl
bits_shown a [] (b ∷ bs) wide h = absurd (omega (arith, wide))
bits_shown a (l ∷ c) [] wide h = absurd (omega (arith, wide))
bits_shown a (l ∷ c) (b ∷ bs) wide h =
    ap (λ x. x ∷ bits_on a c) (beq-true (a l.variable) b h.0) ∙ ap (λ xs. b ∷ xs) (bits_shown a c bs (omega (arith, wide)) h.1)

pub block_broken : (a : ℕ → Bool) (c : Clause) (bs : List Bool) → length bs ≡ length c → list_any (literal_value a) (signed c (map not bs)) ≡ false →
    bits_on a c ≡ bs
block_broken a [] [] wide h = refl
block_broken a [] (b ∷ bs) wide h = absurd (omega (arith, wide))
block_broken a (l ∷ c) [] wide h = absurd (omega (arith, wide))
block_broken a (l ∷ c) (b ∷ bs) wide h =
    let parts = or_parts (beq (a l.variable) (not b)) (list_any (literal_value a) (signed c (map not bs))) h in
    ap (λ x. x ∷ bits_on a c) (same_sign (a l.variable) b parts.0) ∙ ap (λ xs. b ∷ xs) (block_broken a c bs (omega (arith, wide)) parts.1)
  where
    same_sign : (x y : Bool) → beq x (not y) ≡ false → x ≡ y
    same_sign true true f = refl
    same_sign true false f = absurd (true≢false f)
    same_sign false true f = absurd (true≢false f)
    same_sign false false f = refl

-- a clause of which no literal is true is not met
pub met_or_not : (a : ℕ → Bool) (c : Clause) → (list_any (literal_value a) c ≡ false → ⊥) → list_any (literal_value a) c ≡ true
met_or_not a c h = by (list_any (literal_value a) c) refl
  where
    by : (b : Bool) → list_any (literal_value a) c ≡ b → list_any (literal_value a) c ≡ true
    by true is = is
    by false is = absurd (h is)
