-- What is read of the words of a line, word by word.
use Rattle.std.proofs.Common.{◌≡◌, ℕ, ◌<◌, true, false, cond, List, [], ◌∷◌, ◌++◌, length, refl, sym, ap, ◌∙◌, Option, Some, None, arith}
use Rattle.std.proofs.lemmas.List.{append_assoc, append-nil}
use Rattle.bs_log.specs.LineReading.{onto_found, up_to_zero, is_letter}

-- what was read before, and then what is found
abbrev pub with_front : {A : Type 0} → List A → Option (List A × List (List ℕ)) → Option (List A × List (List ℕ))
with_front front None = None
with_front front (Some found) = Some (front ++ found.0, found.1)

pub nothing_before : {A : Type 0} (o : Option (List A × List (List ℕ))) → o ≡ with_front [] o
nothing_before None = refl
nothing_before (Some found) = refl

one_more : {A : Type 0} (front : List A) (a : A) (o : Option (List A × List (List ℕ))) →
    with_front front (onto_found (Some a) o) ≡ with_front (front ++ a ∷ []) o
one_more front a None = refl
one_more front a (Some found) = ap (λ xs. Some (xs, found.1)) (sym (append_assoc front (a ∷ []) found.0))

pub step_found : {A : Type 0} (read : List ℕ → Option A) (words next : List (List ℕ)) (w : List ℕ) (a : A) (front : List A) →
    words ≡ w ∷ next → is_letter 48 w ≡ false → read w ≡ Some a →
    with_front front (up_to_zero read words) ≡ with_front (front ++ a ∷ []) (up_to_zero read next)
step_found read words next w a front is other found =
    ap (λ ws. with_front front (up_to_zero read ws)) is ∙
    ap (λ b. with_front front (cond b (Some ([], next)) (onto_found (read w) (up_to_zero read next)))) other ∙
    ap (λ o. with_front front (onto_found o (up_to_zero read next))) found ∙ one_more front a (up_to_zero read next)

pub end_found : {A : Type 0} (read : List ℕ → Option A) (words next : List (List ℕ)) (w : List ℕ) (front : List A) →
    words ≡ w ∷ next → is_letter 48 w ≡ true → with_front front (up_to_zero read words) ≡ Some (front, next)
end_found read words next w front is zero =
    ap (λ ws. with_front front (up_to_zero read ws)) is ∙
    ap (λ b. with_front front (cond b (Some ([], next)) (onto_found (read w) (up_to_zero read next)))) zero ∙
    ap (λ xs. Some (xs, next)) (append-nil front)

pub lost : {A : Type 0} (read : List ℕ → Option A) (words next : List (List ℕ)) (w : List ℕ) (front : List A) →
    words ≡ w ∷ next → is_letter 48 w ≡ false → read w ≡ None → with_front front (up_to_zero read words) ≡ None
lost read words next w front is other none =
    ap (λ ws. with_front front (up_to_zero read ws)) is ∙
    ap (λ b. with_front front (cond b (Some ([], next)) (onto_found (read w) (up_to_zero read next)))) other ∙
    ap (λ o. with_front front (onto_found o (up_to_zero read next))) none

pub none_left : {A : Type 0} (read : List ℕ → Option A) (words : List (List ℕ)) (front : List A) → words ≡ [] → with_front front (up_to_zero read words) ≡ None
none_left read words front is = ap (λ ws. with_front front (up_to_zero read ws)) is

pub shorter : (words next : List (List ℕ)) (w : List ℕ) → words ≡ w ∷ next → length next < length words
shorter words next w is = omega (arith, ap length is)

-- how a list of words is read, word by word
pub ruleset words_read = (step_found, end_found, lost, none_left, nothing_before, shorter)
