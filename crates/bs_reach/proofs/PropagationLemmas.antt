-- Hints lead to a false clause wherever they go.
use Rattle.std.proofs.Common.{◌≡◌, Bool, true, false, not, ◌&&◌, ◌||◌, cond, eqb, List, [], ◌∷◌, map, refl, ap, ◌∙◌, Option, Some, None}
use Rattle.std.specs.Prelude.{option_map, option_and_then, is_some}
use Rattle.std.specs.List.{list_any}
use Rattle.bs_clause.specs.Literal.{Literal, Clause, negation, same_literal, has_literal}
use Rattle.bs_log.specs.Propagation.{open_literals, sole_unassigned, unit_literal, is_false, after_hints, ends_false, ends_false_after, start_of, hints_are_unit, last_is_false}
use Rattle.bs_log.specs.Refusal.{has_distinct_variables, denies}
use Rattle.bs_reach.specs.declared.offsets.Shift.{Shift}
use Rattle.bs_reach.specs.Renamed.{new_literal, new_clause}
use Rattle.bs_reach.proofs.ShiftLemmas.{same_variable, same_new_literal}

-- a choice in a list
map_cond : {X Y : Type 0} (f : X → Y) (b : Bool) (x : X) (xs : List X) → cond b (f x ∷ map f xs) (map f xs) ≡ map f (cond b (x ∷ xs) xs)
map_cond f true x xs = refl
map_cond f false x xs = refl

pub same_has : (s : Shift) (c : Clause) (l : Literal) → has_literal (new_clause s c) (new_literal s l) ≡ has_literal c l
same_has s [] l = refl
same_has s (m ∷ c) l =
    ap (λ t. t || has_literal (new_clause s c) (new_literal s l)) (same_new_literal s l m) ∙ ap (λ t. same_literal l m || t) (same_has s c l)

pub same_distinct : (s : Shift) (c : Clause) → has_distinct_variables (new_clause s c) ≡ has_distinct_variables c
same_distinct s [] = refl
same_distinct s (l ∷ c) =
    ap (λ t. not t && has_distinct_variables (new_clause s c)) (others c)
    ∙ ap (λ t. not (list_any (λ (m : Literal). eqb m.variable l.variable) c) && t) (same_distinct s c)
  where
    others : (d : Clause) → list_any (λ (m : Literal). eqb m.variable (new_literal s l).variable) (new_clause s d) ≡
        list_any (λ (m : Literal). eqb m.variable l.variable) d
    others [] = refl
    others (m ∷ d) =
        ap (λ t. t || list_any (λ (n : Literal). eqb n.variable (new_literal s l).variable) (new_clause s d)) (same_variable s m.variable l.variable)
        ∙ ap (λ t. eqb m.variable l.variable || t) (others d)

pub same_denies : (s : Shift) (assumptions c : Clause) → denies (new_clause s assumptions) (new_clause s c) ≡ denies assumptions c
same_denies s assumptions [] = refl
same_denies s assumptions (l ∷ c) =
    ap (λ t. t && denies (new_clause s assumptions) (new_clause s c)) (same_has s assumptions (negation l))
    ∙ ap (λ t. has_literal assumptions (negation l) && t) (same_denies s assumptions c)

new_open : (s : Shift) (trues : List Literal) (c : Clause) → open_literals (new_clause s trues) (new_clause s c) ≡ new_clause s (open_literals trues c)
new_open s trues [] = refl
new_open s trues (l ∷ c) =
    ap (λ t. cond (not t) (new_literal s l ∷ open_literals (new_clause s trues) (new_clause s c)) (open_literals (new_clause s trues) (new_clause s c)))
    (same_has s trues (negation l))
    ∙ (ap (λ (r : Clause). cond (not (has_literal trues (negation l))) (new_literal s l ∷ r) r) (new_open s trues c)
    ∙ map_cond (new_literal s) (not (has_literal trues (negation l))) l (open_literals trues c))

sole : (s : Shift) (trues : List Literal) (c : Clause) →
    sole_unassigned (new_clause s trues) (new_clause s c) ≡ option_map (new_literal s) (sole_unassigned trues c)
sole s trues [] = refl
sole s trues (l ∷ []) =
    ap (λ t. cond {A = Option Literal} t None (Some (new_literal s l))) (same_has s trues l) ∙ by (has_literal trues l)
  where
    by : (b : Bool) → cond {A = Option Literal} b None (Some (new_literal s l)) ≡ option_map (new_literal s) (cond b None (Some l))
    by true = refl
    by false = refl
sole s trues (l ∷ m ∷ c) = refl

pub new_unit : (s : Shift) (trues : List Literal) (c : Clause) →
    unit_literal (new_clause s trues) (new_clause s c) ≡ option_map (new_literal s) (unit_literal trues c)
new_unit s trues c = ap (sole_unassigned (new_clause s trues)) (new_open s trues c) ∙ sole s trues (open_literals trues c)

same_false : (s : Shift) (trues : List Literal) (c : Clause) → is_false (new_clause s trues) (new_clause s c) ≡ is_false trues c
same_false s trues [] = refl
same_false s trues (l ∷ c) =
    ap (λ t. t && is_false (new_clause s trues) (new_clause s c)) (same_has s trues (negation l))
    ∙ ap (λ t. has_literal trues (negation l) && t) (same_false s trues c)

new_after : (s : Shift) (trues : List Literal) (cs : List Clause) →
    after_hints (new_clause s trues) (map (new_clause s) cs) ≡ option_map (new_clause s) (after_hints trues cs)
new_after s trues [] = refl
new_after s trues (c ∷ []) = refl
new_after s trues (c ∷ d ∷ cs) =
    ap (option_and_then (λ (l : Literal). after_hints (l ∷ new_clause s trues) (map (new_clause s) (d ∷ cs)))) (new_unit s trues c)
    ∙ by (unit_literal trues c) (λ l. new_after s (l ∷ trues) (d ∷ cs))
  where
    by : (o : Option Literal) →
        ((l : Literal) → after_hints (new_clause s (l ∷ trues)) (map (new_clause s) (d ∷ cs)) ≡ option_map (new_clause s) (after_hints (l ∷ trues) (d ∷ cs))) →
        option_and_then (λ (l : Literal). after_hints (l ∷ new_clause s trues) (map (new_clause s) (d ∷ cs))) (option_map (new_literal s) o) ≡
        option_map (new_clause s) (option_and_then (λ (l : Literal). after_hints (l ∷ trues) (d ∷ cs)) o)
    by None rest = refl
    by (Some l) rest = rest l

same_ends : (s : Shift) (cs : List Clause) (trues : List Literal) → ends_false (map (new_clause s) cs) (new_clause s trues) ≡ ends_false cs trues
same_ends s [] trues = refl
same_ends s (c ∷ []) trues = same_false s trues c
same_ends s (c ∷ d ∷ cs) trues = same_ends s (d ∷ cs) trues

pub new_start : (s : Shift) (c : Clause) → start_of (new_clause s c) ≡ new_clause s (start_of c)
new_start s [] = refl
new_start s (l ∷ c) = ap (λ (r : Clause). new_literal s (negation l) ∷ r) (new_start s c)

after_start : (s : Shift) (lemma : Clause) (hints : List Clause) →
    after_hints (start_of (new_clause s lemma)) (map (new_clause s) hints) ≡ option_map (new_clause s) (after_hints (start_of lemma) hints)
after_start s lemma hints =
    ap (λ (t : List Literal). after_hints t (map (new_clause s) hints)) (new_start s lemma) ∙ new_after s (start_of lemma) hints

pub same_some : {X Y : Type 0} (f : X → Y) (o : Option X) → is_some (option_map f o) ≡ is_some o
same_some f None = refl
same_some f (Some x) = refl

pub still_unit : (s : Shift) (lemma : Clause) (hints : List Clause) → hints_are_unit (new_clause s lemma) (map (new_clause s) hints) ≡ hints_are_unit lemma hints
still_unit s lemma hints = ap is_some (after_start s lemma hints) ∙ same_some (new_clause s) (after_hints (start_of lemma) hints)

pub still_false : (s : Shift) (lemma : Clause) (hints : List Clause) → last_is_false (new_clause s lemma) (map (new_clause s) hints) ≡ last_is_false lemma hints
still_false s lemma hints =
    ap (ends_false_after (map (new_clause s) hints)) (after_start s lemma hints) ∙ by (after_hints (start_of lemma) hints)
  where
    by : (o : Option (List Literal)) → ends_false_after (map (new_clause s) hints) (option_map (new_clause s) o) ≡ ends_false_after hints o
    by None = refl
    by (Some trues) = same_ends s hints trues
