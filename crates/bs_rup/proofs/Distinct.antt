-- Where the literals of a clause are false, a literal is assigned exactly where its variable stands in the clause.
use Rattle.std.proofs.Common.{◌≡◌, ℕ, Bool, true, false, not, ◌&&◌, ◌||◌, List, [], ◌∷◌, map, refl, sym, ap, ◌∙◌, eqb}
use Rattle.std.specs.Bool.{beq}
use Rattle.std.specs.List.{list_any}
use Rattle.std.proofs.lemmas.Bool.{eqb-true, eq-eqb, eqb-false, ne_eqb}
use Rattle.bs_clause.specs.Literal.{Literal, Clause, negation, same_literal, has_literal}

eqb_turned : (a b : ℕ) → eqb a b ≡ eqb b a
eqb_turned a b = by (eqb a b) refl
  where
    by : (t : Bool) → eqb a b ≡ t → t ≡ eqb b a
    by true e = sym (eq-eqb b a (sym (eqb-true a b e)))
    by false e = sym (ne_eqb b a (λ same. eqb-false a b e (sym same)))

one_sign : (e p q : Bool) → ((e && beq p (not q)) || (e && beq (not p) (not q))) ≡ e
one_sign true true true = refl
one_sign true true false = refl
one_sign true false true = refl
one_sign true false false = refl
one_sign false p q = refl

regroup : (a b c d : Bool) → ((a || b) || (c || d)) ≡ ((a || c) || (b || d))
regroup true b c d = refl
regroup false true true d = refl
regroup false true false d = refl
regroup false false true d = refl
regroup false false false d = refl

assigned_in : (rest : Clause) (l : Literal) →
    (has_literal (map negation rest) l || has_literal (map negation rest) (negation l)) ≡ list_any (λ m. eqb m.variable l.variable) rest
assigned_in [] l = refl
assigned_in (m ∷ rest) l =
    regroup (same_literal l (negation m)) (has_literal (map negation rest) l) (same_literal (negation l) (negation m))
    (has_literal (map negation rest) (negation l)) ∙
    ap (λ b. b || (has_literal (map negation rest) l || has_literal (map negation rest) (negation l)))
    (one_sign (eqb l.variable m.variable) l.positive m.positive ∙ eqb_turned l.variable m.variable) ∙
    ap (λ b. eqb m.variable l.variable || b) (assigned_in rest l)

pub assigned : (rest : Clause) (l : Literal) (trues : List Literal) → trues ≡ map negation rest →
    (has_literal trues l || has_literal trues (negation l)) ≡ list_any (λ m. eqb m.variable l.variable) rest
assigned rest l trues is = ap (λ ts. has_literal ts l || has_literal ts (negation l)) is ∙ assigned_in rest l
