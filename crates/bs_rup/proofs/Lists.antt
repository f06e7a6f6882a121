-- Tests on lists.
use Rattle.std.proofs.Common.{◌≡◌, ℕ, zero, suc, ◌+◌, ◌<◌, ◌≤◌, arith, Bool, true, false, not, ◌||◌, cond, List, [], ◌∷◌, ◌++◌, length, reverse, take}
use Rattle.std.proofs.Common.{drop, get_or, refl, sym, ap, ◌∙◌, Option, Some, None}
use Rattle.std.specs.Prelude.{is_some, slice_get, option_map}
use Rattle.std.specs.Option.{option_to_list}
use Rattle.std.specs.List.{list_any, filter}
use Rattle.std.proofs.lemmas.Bool.{false≢true}
use Rattle.std.proofs.lemmas.List.{take-append-drop, drop_more, reverse-append}
use Rattle.std.proofs.lemmas.List.Folds.{list_any-append}
use Rattle.std.proofs.lemmas.List.Elements.{filter-append}
use Rattle.bs_clause.specs.Literal.{Literal, Clause, negation, has_literal}
use Rattle.bs_log.specs.Propagation.{open_literals, sole_unassigned, unit_literal}
use Rattle.bs_log.specs.Refusal.{is_ascending}

or_comm : (a b : Bool) → (a || b) ≡ (b || a)
or_comm true true = refl
or_comm true false = refl
or_comm false true = refl
or_comm false false = refl

or_false : (a : Bool) → (a || false) ≡ a
or_false true = refl
or_false false = refl

pub list_any-reverse : {X : Type 0} (p : X → Bool) (xs : List X) → list_any p (reverse xs) ≡ list_any p xs
list_any-reverse p [] = refl
list_any-reverse p (x ∷ xs) =
    ap (list_any p) (reverse-append (x ∷ []) xs) ∙ list_any-append p (reverse xs) (x ∷ []) ∙
    ap (λ a. a || (p x || false)) (list_any-reverse p xs) ∙ or_comm (list_any p xs) (p x || false) ∙ ap (λ a. a || list_any p xs) (or_false (p x))

-- a clause with two literals that are not false is not unit
pub two_open : (trues : List Literal) (clause : Clause) (i : ℕ) (l : Literal) (found : Option Literal) → i < length clause → l ≡ get_or clause i l →
    has_literal trues (negation l) ≡ false → open_literals trues (take i clause) ≡ option_to_list found → is_some found ≡ true →
    unit_literal trues clause ≡ None
two_open trues clause i l None h at unfalse first some = absurd (false≢true some)
two_open trues clause i l (Some x) h at unfalse first some =
    let test : Literal → Bool = λ m. not (has_literal trues (negation m)) in
    let parts : clause ≡ take i clause ++ (l ∷ drop (i + 1) clause) =
    sym (take-append-drop i clause) ∙ ap (λ r. take i clause ++ r) (drop_more clause i l h ∙ ap (λ a. a ∷ drop (i + 1) clause) (sym at)) in
    let kept : filter test (l ∷ drop (i + 1) clause) ≡ l ∷ filter test (drop (i + 1) clause) =
    ap (λ b. cond (not b) (l ∷ filter test (drop (i + 1) clause)) (filter test (drop (i + 1) clause))) unfalse in
    ap (unit_literal trues) parts ∙
    ap (sole_unassigned trues)
    (filter-append test (take i clause) (l ∷ drop (i + 1) clause) ∙ ap (λ a. a ++ filter test (l ∷ drop (i + 1) clause)) first ∙ ap (λ a. x ∷ a) kept)

pub short_ascending : (xs : List ℕ) → length xs ≤ 1 → is_ascending xs ≡ true
short_ascending [] h = refl
short_ascending (x ∷ []) h = refl
short_ascending (x ∷ y ∷ xs) h = absurd (omega arith)

-- a slice of one element is that element
pub one_taken : {X : Type 0} (xs : List X) (k : ℕ) → is_some (slice_get xs k) ≡ true →
    option_map (λ (x : X). x ∷ []) (slice_get xs k) ≡ Some (take 1 (drop k xs))
one_taken [] k h = absurd (false≢true h)
one_taken (x ∷ xs) zero h = refl
one_taken (x ∷ xs) (suc k) h = one_taken xs k h
