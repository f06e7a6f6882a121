-- Different nets have different keys.
use Rattle.std.proofs.Common.{◌≡◌, ℕ, ◌<◌, ◌^◌, Bool, true, false, cond, List, [], ◌∷◌, ◌++◌, get_or, refl, arith, subst, ap, sym, ◌∙◌, Option, Some, None, append_assoc}
use Rattle.std.specs.List.{AllByRecursion, list_all}
use Rattle.std.specs.Fmt.{decimal}
use Rattle.std.specs.Str.Parse.{AllDigits}
use Rattle.std.specs.Char.{digit_value}
use Rattle.std.proofs.lemmas.Bool.{false≢true, and_parts}
use Rattle.std.proofs.lemmas.List.{append_cancel_right}
use Rattle.std.proofs.lemmas.Fmt.{decimal_injective, decimal_is_IsNumeral}
use Rattle.bs_lex.specs.Bytes.{begins_name, is_of_name}
use Rattle.bs_verilog_scope.specs.Keys.{is_plain, scalar_key, bit_key}

-- no byte of the list is this one
abbrev HasNo : ℕ → List ℕ → Type 0
HasNo c xs = AllByRecursion (λ x. x ≡ c → ⊥) xs

split_first : (c : ℕ) (xs ys us vs : List ℕ) → HasNo c xs → HasNo c ys → xs ++ c ∷ us ≡ ys ++ c ∷ vs → (xs ≡ ys) × (us ≡ vs)
split_first c [] [] us vs a b e = let same : us ≡ vs = cc in (refl, same)
split_first c [] (y ∷ ys) us vs a b e = let same : c ≡ y = cc in absurd (b.0 (sym same))
split_first c (x ∷ xs) [] us vs a b e = let same : x ≡ c = cc in absurd (a.0 same)
split_first c (x ∷ xs) (y ∷ ys) us vs a b e =
    let head : x ≡ y = cc in
    let tail : xs ++ c ∷ us ≡ ys ++ c ∷ vs = cc in
    let r = split_first c xs ys us vs a.1 b.1 tail in
    (ap (λ z. z ∷ xs) head ∙ ap (λ zs. y ∷ zs) r.0, r.1)

never : (c : ℕ) (xs ys us : List ℕ) → HasNo c xs → xs ≡ ys ++ c ∷ us → ⊥
never c [] [] us a e = absurd cc
never c [] (y ∷ ys) us a e = absurd cc
never c (x ∷ xs) [] us a e = let same : x ≡ c = cc in a.0 same
never c (x ∷ xs) (y ∷ ys) us a e = let tail : xs ≡ ys ++ c ∷ us = cc in never c xs ys us a.1 tail

-- a name of the form of a Name has neither `[` nor `\`

plain_no : (xs : List ℕ) → list_all is_of_name xs ≡ true → HasNo 91 xs
plain_no [] h = tt
plain_no (x ∷ xs) h =
    let parts = and_parts (is_of_name x) (list_all is_of_name xs) h in
    (λ e. false≢true (subst (λ k. is_of_name k ≡ true) e parts.0), plain_no xs parts.1)

plain_first : (a rest : List ℕ) (c : ℕ) → begins_name c ≡ false → is_plain a ≡ true → a ≡ c ∷ rest → ⊥
plain_first a rest c other h e =
    let parts = and_parts (begins_name (get_or a 0 0)) (list_all is_of_name a) h in
    false≢true (sym other ∙ subst (λ (l : List ℕ). begins_name (get_or l 0 0) ≡ true) e parts.0)

plain_front : (a more rest : List ℕ) (c : ℕ) → begins_name c ≡ false → is_plain a ≡ true → a ++ more ≡ c ∷ rest → ⊥
plain_front [] more rest c other h e = false≢true h
plain_front (x ∷ xs) more rest c other h e =
    let parts = and_parts (begins_name x) (list_all is_of_name (x ∷ xs)) h in
    let same : x ≡ c = cc in
    false≢true (sym other ∙ subst (λ k. begins_name k ≡ true) same parts.0)

digits_no : (xs : List ℕ) → AllDigits 10 xs → HasNo 93 xs
digits_no [] h = tt
digits_no (x ∷ xs) h = (λ e. not_small (subst (λ k. digit_value k < 10) e h.0), digits_no xs h.1)
  where
    not_small : digit_value 93 < 10 → ⊥
    not_small lt = omega (arith, lt)

-- ---- the shapes of keys

abbrev shape : Bool → Option ℕ → List ℕ → List ℕ
shape true None a = a
shape false None a = 92 ∷ a
shape true (Some i) a = a ++ 91 ∷ (decimal i ++ 93 ∷ [])
shape false (Some i) a = 91 ∷ (decimal i ++ 93 ∷ 92 ∷ a)

-- an index that has a text
abbrev pub IsIndex : Option ℕ → Type 0
IsIndex (Some i) = i < 2 ^ 64
IsIndex None = Unit {0}

abbrev Same : Option ℕ → Option ℕ → List ℕ → List ℕ → Type 0
Same o q a b = (a ≡ b) × (o ≡ q)

shapes_apart : (s t : Bool) (o q : Option ℕ) (a b : List ℕ) → is_plain a ≡ s → is_plain b ≡ t → IsIndex o → IsIndex q → shape s o a ≡ shape t q b → Same o q a b
shapes_apart true true None None a b pa pb i j e = (e, refl)
shapes_apart true true None (Some n) a b pa pb i j e = absurd (never 91 a b (decimal n ++ 93 ∷ []) (plain_no a (and_parts _ (list_all is_of_name a) pa).1) e)
shapes_apart true true (Some m) None a b pa pb i j e = absurd (never 91 b a (decimal m ++ 93 ∷ []) (plain_no b (and_parts _ (list_all is_of_name b) pb).1) (sym e))
shapes_apart true true (Some m) (Some n) a b pa pb i j e =
    let r = split_first 91 a b (decimal m ++ 93 ∷ []) (decimal n ++ 93 ∷ []) (plain_no a (and_parts _ (list_all is_of_name a) pa).1) (plain_no b (and_parts _ (list_all is_of_name b) pb).1) e in
    (r.0, ap Some (decimal_injective m n i j (append_cancel_right (decimal m) (decimal n) (93 ∷ []) r.1)))
shapes_apart true false None None a b pa pb i j e = absurd (plain_first a b 92 refl pa e)
shapes_apart true false None (Some n) a b pa pb i j e = absurd (plain_first a (decimal n ++ 93 ∷ 92 ∷ b) 91 refl pa e)
shapes_apart true false (Some m) None a b pa pb i j e = absurd (plain_front a (91 ∷ (decimal m ++ 93 ∷ [])) b 92 refl pa e)
shapes_apart true false (Some m) (Some n) a b pa pb i j e = absurd (plain_front a (91 ∷ (decimal m ++ 93 ∷ [])) (decimal n ++ 93 ∷ 92 ∷ b) 91 refl pa e)
shapes_apart false true None None a b pa pb i j e = absurd (plain_first b a 92 refl pb (sym e))
shapes_apart false true (Some m) None a b pa pb i j e = absurd (plain_first b (decimal m ++ 93 ∷ 92 ∷ a) 91 refl pb (sym e))
shapes_apart false true None (Some n) a b pa pb i j e = absurd (plain_front b (91 ∷ (decimal n ++ 93 ∷ [])) a 92 refl pb (sym e))
shapes_apart false true (Some m) (Some n) a b pa pb i j e = absurd (plain_front b (91 ∷ (decimal n ++ 93 ∷ [])) (decimal m ++ 93 ∷ 92 ∷ a) 91 refl pb (sym e))
shapes_apart false false None None a b pa pb i j e = let same : a ≡ b = cc in (same, refl)
shapes_apart false false None (Some n) a b pa pb i j e = absurd (omega (arith, ap (λ (l : List ℕ). get_or l 0 0) e))
shapes_apart false false (Some m) None a b pa pb i j e = absurd (omega (arith, ap (λ (l : List ℕ). get_or l 0 0) e))
shapes_apart false false (Some m) (Some n) a b pa pb i j e =
    let tail : decimal m ++ 93 ∷ 92 ∷ a ≡ decimal n ++ 93 ∷ 92 ∷ b = cc in
    let r = split_first 93 (decimal m) (decimal n) (92 ∷ a) (92 ∷ b) (digits_no (decimal m) (decimal_is_IsNumeral m i).0.1) (digits_no (decimal n) (decimal_is_IsNumeral n j).0.1) tail in
    let same : a ≡ b = cc in
    (same, ap Some (decimal_injective m n i j r.0))

-- ---- keys

abbrev pub indexed_key : List ℕ → Option ℕ → List ℕ
indexed_key a None = scalar_key a
indexed_key a (Some i) = bit_key a i

scalar_shape : (a : List ℕ) → scalar_key a ≡ shape (is_plain a) None a
unfolding scalar_key
scalar_shape a = by (is_plain a)
  where
    by : (b : Bool) → cond b a (92 ∷ a) ≡ shape b None a
    by true = refl
    by false = refl

bit_shape : (a : List ℕ) (i : ℕ) → bit_key a i ≡ shape (is_plain a) (Some i) a
unfolding bit_key
bit_shape a i = by (is_plain a)
  where
    index : List ℕ
    index = 91 ∷ (decimal i ++ 93 ∷ [])

    by : (b : Bool) → cond b (a ++ (91 ∷ (decimal i ++ 93 ∷ []))) (((91 ∷ (decimal i ++ 93 ∷ [])) ++ 92 ∷ []) ++ a) ≡ shape b (Some i) a
    by true = refl
    by false = ap (λ (l : List ℕ). 91 ∷ l) (ap (λ (l : List ℕ). l ++ a) (append_assoc (decimal i) (93 ∷ []) (92 ∷ [])) ∙ append_assoc (decimal i) (93 ∷ 92 ∷ []) a)

key_shape : (a : List ℕ) (o : Option ℕ) → indexed_key a o ≡ shape (is_plain a) o a
key_shape a None = scalar_shape a
key_shape a (Some i) = bit_shape a i

-- keys that are the same are of the same name and index
pub keys_apart : (a b : List ℕ) (o q : Option ℕ) → IsIndex o → IsIndex q → indexed_key a o ≡ indexed_key b q → (a ≡ b) × (o ≡ q)
keys_apart a b o q i j e =
    shapes_apart (is_plain a) (is_plain b) o q a b refl refl i j (sym (key_shape a o) ∙ (e ∙ key_shape b q))
