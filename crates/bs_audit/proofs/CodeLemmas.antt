-- Literals with their codes.
use Rattle.std.proofs.Common.{◌≡◌, ℕ, ◌<◌, ◌+◌, ◌*◌, Bool, true, false, cond, [], ◌∷◌, ◌++◌, length, take, get_or, refl, arith, ap, sym, ◌∙◌}
use Rattle.std.specs.Prelude.{nat_eq, ◌||◌}
use Rattle.std.specs.HashSet.{HashSet}
use Rattle.std.specs.HashSet as bag
use Rattle.std.proofs.lemmas.Bool.{eqb-true, eq-eqb}
use Rattle.std.proofs.lemmas.List.{take_more, take_all}
use Rattle.std.proofs.lemmas.List.Folds.{list_any-append}
use Rattle.bs_clause.specs.Literal.{Literal, Clause, code_of, same_literal, has_literal}
use Rattle.bs_clause.proofs.Literals.{same_literal_iff, literal_from_parts}
use Rattle.bs_audit.specs.Codes.{HasCodes}

record SameParts (va vb : ℕ) (pa pb : Bool) : Type 0 where
  variable : va ≡ vb
  positive : pa ≡ pb

same_parts : (va vb : ℕ) (pa pb : Bool) → 2 * va + cond pa 0 1 ≡ 2 * vb + cond pb 0 1 → SameParts va vb pa pb
same_parts va vb true true e = record { variable = omega (arith, e); positive = refl }
same_parts va vb true false e = absurd (omega (arith, e))
same_parts va vb false true e = absurd (omega (arith, e))
same_parts va vb false false e = record { variable = omega (arith, e); positive = refl }

alike : (p q : Bool) → (p ≡ true → q ≡ true) → (q ≡ true → p ≡ true) → p ≡ q
alike true true f g = refl
alike true false f g = sym (f refl)
alike false true f g = g refl
alike false false f g = refl

-- two literals are the same where their codes are
same_code : (a b : Literal) → nat_eq (code_of a) (code_of b) ≡ same_literal b a
same_code a b =
    alike (nat_eq (code_of a) (code_of b)) (same_literal b a)
    (λ e. let parts = same_parts a.variable b.variable a.positive b.positive (eqb-true (code_of a) (code_of b) e) in
    (same_literal_iff b a).1 (literal_from_parts b a (sym parts.variable) (sym parts.positive)))
    (λ e. eq-eqb (code_of a) (code_of b) (ap code_of (sym ((same_literal_iff b a).0 e))))

cond_or : (a b : Bool) → cond a true b ≡ (b || (a || false))
cond_or true true = refl
cond_or true false = refl
cond_or false true = refl
cond_or false false = refl

pub codes_more : {S : Type 0} (before after : HashSet ℕ S) (literals : Clause) (i code : ℕ) (literal : Literal) → HasCodes before literals i →
    ((q : ℕ) → bag.contains nat_eq after q ≡ cond (nat_eq code q) true (bag.contains nat_eq before q)) → i < length literals →
    literal ≡ get_or literals i literal → code ≡ code_of literal →
    HasCodes after literals (i + 1)
codes_more before after literals i code literal h up lt is e =
    record {
      exact = λ l.
          let more : has_literal (take (i + 1) literals) l ≡ (has_literal (take i literals) l || (same_literal l literal || false)) =
          ap (λ (c : Clause). has_literal c l) (take_more literals i literal lt ∙ ap (λ (k : Literal). take i literals ++ k ∷ []) (sym is))
          ∙ list_any-append (same_literal l) (take i literals) (literal ∷ []) in
          up (code_of l)
          ∙ (ap (λ (b : Bool). cond (nat_eq code (code_of l)) true b) (h.exact l)
          ∙ (ap (λ (n : ℕ). cond (nat_eq n (code_of l)) true (has_literal (take i literals) l)) e
          ∙ (ap (λ (b : Bool). cond b true (has_literal (take i literals) l)) (same_code literal l)
          ∙ (cond_or (same_literal l literal) (has_literal (take i literals) l) ∙ sym more))));
    }

pub is_assumed : {S : Type 0} (codes : HashSet ℕ S) (literals : Clause) (l : Literal) (code : ℕ) (found : Bool) →
    HasCodes codes literals (length literals) → code ≡ code_of l →
    found ≡ bag.contains nat_eq codes code → found ≡ has_literal literals l
is_assumed codes literals l code found h e f =
    f ∙ (ap (bag.contains nat_eq codes) e ∙ (h.exact l ∙ ap (λ (c : Clause). has_literal c l) (take_all (length literals) literals (omega arith))))
