-- Numbers in a row, and what they give in turn.
use Rattle.std.proofs.Common.{◌≡◌, ℕ, suc, zero, ◌≤◌, ◌+◌, ◌-◌, List, [], ◌∷◌, ◌++◌, ap, sym, ◌∙◌, arith, append_assoc, add-one, zero-add}
use Rattle.std.specs.List.{flat_map, range_with_len}
use Rattle.std.proofs.lemmas.List.{append-nil}

pub range_more : (a n : ℕ) → range_with_len a (suc n) ≡ range_with_len a n ++ (a + n) ∷ []
range_more a zero = let e : a ≡ a + 0 = omega arith in ap (λ x. x ∷ []) e
range_more a (suc n) =
    let e : (a + 1) + n ≡ a + suc n = omega arith in
    ap (λ u. a ∷ u) (range_more (a + 1) n ∙ ap (λ x. range_with_len (a + 1) n ++ x ∷ []) e)

-- the numbers below one more
pub range_push : (n : ℕ) → range_with_len 0 (n + 1) ≡ range_with_len 0 n ++ n ∷ []
range_push n = rw add-one (range_more 0 n ∙ ap (λ x. range_with_len 0 n ++ x ∷ []) (zero-add n))

-- one number more
pub flat_more : (f : ℕ → List ℕ) (a n : ℕ) → flat_map f (range_with_len a (suc n)) ≡ flat_map f (range_with_len a n) ++ f (a + n)
flat_more f a zero = append-nil (f a) ∙ ap f (let e : a ≡ a + 0 = omega arith in e)
flat_more f a (suc n) =
    let place : a + 1 + n ≡ a + suc n = omega arith in
    ap (λ (rest : List ℕ). f a ++ rest) (flat_more f (a + 1) n)
    ∙ (sym (append_assoc (f a) (flat_map f (range_with_len (a + 1) n)) (f (a + 1 + n)))
    ∙ ap (λ (k : ℕ). (f a ++ flat_map f (range_with_len (a + 1) n)) ++ f k) place)

-- one place more
pub places_more : (f : ℕ → List ℕ) (n : ℕ) → flat_map f (range_with_len 0 (n + 1)) ≡ flat_map f (range_with_len 0 n) ++ f n
places_more f n =
    ap (λ (k : ℕ). flat_map f (range_with_len 0 k)) (add-one n)
    ∙ (flat_more f 0 n ∙ ap (λ (k : ℕ). flat_map f (range_with_len 0 n) ++ f k) (let e : 0 + n ≡ n = omega arith in e))

-- what a place appends
pub places_step : (f : ℕ → List ℕ) (old before after : List ℕ) (n : ℕ) → before ≡ old ++ flat_map f (range_with_len 0 n) → after ≡ before ++ f n →
    after ≡ old ++ flat_map f (range_with_len 0 (n + 1))
places_step f old before after n e g =
    g ∙ (ap (λ (t : List ℕ). t ++ f n) e ∙ (append_assoc old (flat_map f (range_with_len 0 n)) (f n) ∙ ap (λ (t : List ℕ). old ++ t) (sym (places_more f n))))
