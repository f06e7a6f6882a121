-- Reverse unit propagation from copies and units.
use Rattle.std.proofs.Common.{◌≡◌, ℕ, suc, ◌+◌, ◌<◌, arith, length, Bool, true, false, not, ◌||◌, ◌&&◌, cond, eqb, List, [], ◌∷◌, ◌++◌, map, refl, sym, ap, subst, ◌∙◌}
use Rattle.std.proofs.Common.{Option, Some, None}
use Rattle.std.specs.Prelude.{is_some, slice_get}
use Rattle.std.specs.Bool.{beq}
use Rattle.std.specs.Option.{option_and_then}
use Rattle.std.specs.List.{list_any, position, position_or_len, AllByRecursion}
use Rattle.std.proofs.lemmas.Bool.{not-true, lt-ltb, and_parts, and_from, or_left, or_right, false≢true, true≢false, eq-eqb}
use Rattle.std.proofs.lemmas.List.{append_assoc}
use Rattle.bs_clause.specs.Literal.{Literal, Clause, negation, same_literal, has_literal}
use Rattle.bs_clause.proofs.Literals.{same_literal-true}
use Rattle.bs_log.specs.Propagation.{sole_unassigned, unit_literal, is_false, after_hints, ends_false, ends_false_after, hints_are_unit, last_is_false}
use Rattle.bs_log.specs.Refusal.{has_distinct_variables}

pub same_self : (l : Literal) → same_literal l l ≡ true
same_self l = and_from (eqb l.variable l.variable) (beq l.positive l.positive) (eq-eqb l.variable l.variable refl) (by l.positive)
  where
    by : (b : Bool) → beq b b ≡ true
    by true = refl
    by false = refl

pub negation_twice : (l : Literal) → negation (negation l) ≡ l
negation_twice l = elim (l.positive) as (λ b. record { variable = l.variable; positive = not (not b) } ≡ record { variable = l.variable; positive = b }) [
  | true ↦ refl
  | false ↦ refl
]

pub any_right : {X : Type 0} (t : X → Bool) (xs ys : List X) → list_any t ys ≡ true → list_any t (xs ++ ys) ≡ true
any_right t [] ys e = e
any_right t (x ∷ xs) ys e = or_right (t x) (list_any t (xs ++ ys)) (any_right t xs ys e)

-- ---- a clause follows from itself

denied_by : (before : List Literal) (c : Clause) → is_false (before ++ map negation c) c ≡ true
denied_by before [] = refl
denied_by before (l ∷ ls) =
    and_from (has_literal (before ++ negation l ∷ map negation ls) (negation l)) (is_false (before ++ negation l ∷ map negation ls) ls)
    (any_right (λ m. same_literal (negation l) m) before (negation l ∷ map negation ls)
    (or_left (same_literal (negation l) (negation l)) (has_literal (map negation ls) (negation l)) (same_self (negation l))))
    (ap (λ (t : List Literal). is_false t ls) (sym (append_assoc before (negation l ∷ []) (map negation ls))) ∙ denied_by (before ++ negation l ∷ []) ls)

pub follows_from_itself : (c : Clause) → last_is_false c (c ∷ []) ≡ true
follows_from_itself c = denied_by [] c

-- and from its first literal alone
pub follows_from_first : (first : Literal) (rest : Clause) → last_is_false (first ∷ rest) ((first ∷ []) ∷ []) ≡ true
follows_from_first first rest =
    and_from (has_literal (map negation (first ∷ rest)) (negation first)) true
    (or_left (same_literal (negation first) (negation first)) (has_literal (map negation rest) (negation first)) (same_self (negation first))) refl

-- ---- the empty clause follows from units against each literal of a clause, and that clause

-- no literal of the list is over the variable
abbrev pub Fresh : List Literal → Literal → Type 0
Fresh trues l = list_any (λ m. eqb l.variable m.variable) trues ≡ false

pub none_same : (trues : List Literal) (l x : Literal) → x.variable ≡ l.variable → Fresh trues l → has_literal trues x ≡ false
none_same [] l x same fresh = refl
none_same (m ∷ ms) l x same fresh = by (eqb l.variable m.variable) refl fresh (none_same ms l x same)
  where
    by : (b : Bool) → eqb l.variable m.variable ≡ b → (b || list_any (λ m. eqb l.variable m.variable) ms) ≡ false →
        (Fresh ms l → has_literal ms x ≡ false) → has_literal (m ∷ ms) x ≡ false
    by true is none later = absurd (true≢false none)
    by false is none later =
        ap (λ t. (t && beq x.positive m.positive) || has_literal ms x) (ap (λ n. eqb n m.variable) same ∙ is) ∙ later none

abbrev pub grown : List Literal → Clause → List Literal
grown trues [] = trues
grown trues (l ∷ ls) = grown (negation l ∷ trues) ls

pub fresher : (trues : List Literal) (l : Literal) (ls : Clause) → list_any (λ m. eqb m.variable l.variable) ls ≡ false → AllByRecursion (Fresh trues) ls →
    AllByRecursion (Fresh (negation l ∷ trues)) ls
fresher trues l [] apart all = tt
fresher trues l (m ∷ ms) apart all = by (eqb m.variable l.variable) refl apart (λ none. fresher trues l ms none all.1)
  where
    by : (b : Bool) → eqb m.variable l.variable ≡ b → (b || list_any (λ m. eqb m.variable l.variable) ms) ≡ false →
        (list_any (λ m. eqb m.variable l.variable) ms ≡ false → AllByRecursion (Fresh (negation l ∷ trues)) ms) →
        AllByRecursion (Fresh (negation l ∷ trues)) (m ∷ ms)
    by true is none later = absurd (true≢false none)
    by false is none later = (ap (λ t. t || list_any (λ n. eqb m.variable n.variable) trues) is ∙ all.0, later none)

pub unit_opens : (trues : List Literal) (l : Literal) → Fresh trues l → unit_literal trues (negation l ∷ []) ≡ Some (negation l)
unit_opens trues l fresh =
    ap (λ t. sole_unassigned trues (cond (not t) (negation l ∷ []) [])) (none_same trues l (negation (negation l)) refl fresh)
    ∙ ap (λ t. cond {A = Option Literal} t None (Some (negation l))) (none_same trues l (negation l) refl fresh)

after_units : (trues : List Literal) (ls : Clause) (c : Clause) → has_distinct_variables ls ≡ true → AllByRecursion (Fresh trues) ls →
    after_hints trues (map (λ l. negation l ∷ []) ls ++ c ∷ []) ≡ Some (grown trues ls)
after_units trues [] c distinct fresh = refl
after_units trues (l ∷ []) c distinct fresh =
    ap (option_and_then (λ (x : Literal). after_hints (x ∷ trues) (c ∷ []))) (unit_opens trues l fresh.0)
after_units trues (l ∷ m ∷ ms) c distinct fresh =
    let parts = and_parts (not (list_any (λ x. eqb x.variable l.variable) (m ∷ ms))) (has_distinct_variables (m ∷ ms)) distinct in
    ap (option_and_then (λ (x : Literal). after_hints (x ∷ trues) (map (λ l. negation l ∷ []) (m ∷ ms) ++ c ∷ []))) (unit_opens trues l fresh.0)
    ∙ after_units (negation l ∷ trues) (m ∷ ms) c parts.1
    (fresher trues l (m ∷ ms) (not-true (list_any (λ x. eqb x.variable l.variable) (m ∷ ms)) parts.0) fresh.1)

pub still_there : (trues : List Literal) (ls : Clause) (x : Literal) → has_literal trues x ≡ true → has_literal (grown trues ls) x ≡ true
still_there trues [] x e = e
still_there trues (l ∷ ls) x e = still_there (negation l ∷ trues) ls x (or_right (same_literal x (negation l)) (has_literal trues x) e)

all_false : (trues : List Literal) (ls : Clause) → is_false (grown trues ls) ls ≡ true
all_false trues [] = refl
all_false trues (l ∷ ls) =
    and_from (has_literal (grown (negation l ∷ trues) ls) (negation l)) (is_false (grown (negation l ∷ trues) ls) ls)
    (still_there (negation l ∷ trues) ls (negation l) (or_left (same_literal (negation l) (negation l)) (has_literal trues (negation l)) (same_self (negation l))))
    (all_false (negation l ∷ trues) ls)

pub last_ends : (xs : List Clause) (c : Clause) (trues : List Literal) → ends_false (xs ++ c ∷ []) trues ≡ is_false trues c
last_ends [] c trues = refl
last_ends (x ∷ []) c trues = refl
last_ends (x ∷ y ∷ xs) c trues = last_ends (y ∷ xs) c trues

all_fresh : (ls : Clause) → AllByRecursion (Fresh []) ls
all_fresh [] = tt
all_fresh (l ∷ ls) = (refl, all_fresh ls)

pub ending_is_unit : (c : Clause) → has_distinct_variables c ≡ true → hints_are_unit [] (map (λ l. negation l ∷ []) c ++ c ∷ []) ≡ true
ending_is_unit c distinct = ap is_some (after_units [] c c distinct (all_fresh c))

pub ending_is_false : (c : Clause) → has_distinct_variables c ≡ true → last_is_false [] (map (λ l. negation l ∷ []) c ++ c ∷ []) ≡ true
ending_is_false c distinct =
    ap (ends_false_after (map (λ l. negation l ∷ []) c ++ c ∷ [])) (after_units [] c c distinct (all_fresh c))
    ∙ (last_ends (map (λ l. negation l ∷ []) c) c (grown [] c) ∙ all_false [] c)

-- ---- a place

pub record IsPlace (ls : Clause) (l : Literal) : Type 0 where
  pub place : ℕ
  pub is : position (λ m. same_literal l m) ls ≡ Some place
  pub holds : slice_get ls place ≡ Some l

at_first : (ls : Clause) (l : Literal) → has_literal ls l ≡ true →
    (position_or_len (λ m. same_literal l m) ls < length ls) × (slice_get ls (position_or_len (λ m. same_literal l m) ls) ≡ Some l)
at_first [] l there = absurd (false≢true there)
at_first (m ∷ ms) l there = by (same_literal l m) refl there (at_first ms l)
  where
    moved : (k : ℕ) → k ≡ position_or_len (λ m. same_literal l m) (m ∷ ms) → (k < length (m ∷ ms)) × (slice_get (m ∷ ms) k ≡ Some l) →
        (position_or_len (λ m. same_literal l m) (m ∷ ms) < length (m ∷ ms))
        × (slice_get (m ∷ ms) (position_or_len (λ m. same_literal l m) (m ∷ ms)) ≡ Some l)
    moved k is both = subst (λ (k : ℕ). (k < length (m ∷ ms)) × (slice_get (m ∷ ms) k ≡ Some l)) is both

    by : (b : Bool) → same_literal l m ≡ b → (b || has_literal ms l) ≡ true →
        (has_literal ms l ≡ true →
        (position_or_len (λ m. same_literal l m) ms < length ms) × (slice_get ms (position_or_len (λ m. same_literal l m) ms) ≡ Some l)) →
        (position_or_len (λ m. same_literal l m) (m ∷ ms) < length (m ∷ ms))
        × (slice_get (m ∷ ms) (position_or_len (λ m. same_literal l m) (m ∷ ms)) ≡ Some l)
    by true is _ _ = moved 0 (sym (ap (λ t. cond (not t) (1 + position_or_len (λ m. same_literal l m) ms) 0) is)) (omega arith, ap (λ (x : Literal). Some x) (sym (same_literal-true l m is)))
    by false is there behind =
        let rest = behind there in
        let less = rest.0 in
        let next : 1 + position_or_len (λ m. same_literal l m) ms ≡ suc (position_or_len (λ m. same_literal l m) ms) = omega arith in
        moved (suc (position_or_len (λ m. same_literal l m) ms)) (sym (ap (λ t. cond (not t) (1 + position_or_len (λ m. same_literal l m) ms) 0) is ∙ next)) (omega (arith, less), rest.1)

pub place_there : (ls : Clause) (l : Literal) → has_literal ls l ≡ true → IsPlace ls l
place_there ls l there =
    let found = at_first ls l there in
    let n : ℕ = position_or_len (λ m. same_literal l m) ls in
    record { place = n; is = ap (λ b. cond {A = Option ℕ} b (Some n) None) (lt-ltb n (length ls) found.0); holds = found.1 }
