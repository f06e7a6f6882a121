-- Clauses of which all literals but one are false.
use Rattle.std.proofs.Common.{◌≡◌, ◌≢◌, true, false, List, [], ◌∷◌, sym, subst, inl, inr, ◌⊎◌}
use Rattle.std.specs.Prelude.{Contains}
use Rattle.std.proofs.lemmas.Bool.{cases_Bool}
use Rattle.bs_clause.specs.Literal.{Literal, Clause, negation, same_literal, has_literal}
use Rattle.bs_watch.specs.Trail.{IsFalseOn}
use Rattle.bs_solve_lemmas.proofs.Literals.{Contains-from_has, absent}
use Rattle.bs_solve_lemmas.proofs.Clauses.{nothing_in, cons_contains, contains_first, contains_cases, same_or_not, not_same}

-- one more than this literal is not false
pub record Another (trail : List Literal) (u : Literal) (c : Clause) : Type 0 where
  pub literal : Literal
  pub stands : Contains c literal
  pub other : u ≢ literal
  pub not_false : ¬ IsFalseOn trail literal

pub alone_or_another : (trail : List Literal) (u : Literal) (c : Clause) →
    ((m : Literal) → Contains c m → (m ≡ u) ⊎ IsFalseOn trail m) ⊎ Another trail u c
alone_or_another trail u [] = inl (λ m there. absurd (nothing_in m there))
alone_or_another trail u (x ∷ c) = elim (alone_or_another trail u c) as
    (λ _. ((m : Literal) → Contains (x ∷ c) m → (m ≡ u) ⊎ IsFalseOn trail m) ⊎ Another trail u (x ∷ c)) [
      | inr rest ↦ inr (record {
        literal = rest.literal;
        stands = cons_contains x c rest.literal rest.stands;
        other = rest.other;
        not_false = rest.not_false;
      })
      | inl alone ↦ by (same_or_not u x) (cases_Bool (has_literal trail (negation x))) alone
    ]
  where
    with_first : (x ≡ u) ⊎ IsFalseOn trail x → ((m : Literal) → Contains c m → (m ≡ u) ⊎ IsFalseOn trail m) →
        (m : Literal) → Contains (x ∷ c) m → (m ≡ u) ⊎ IsFalseOn trail m
    with_first here rest m there = elim (contains_cases x c m there) [
      | inl same ↦ subst (λ y. (y ≡ u) ⊎ IsFalseOn trail y) same here
      | inr later ↦ rest m later
    ]

    by : (u ≡ x) ⊎ (same_literal u x ≡ false) → (has_literal trail (negation x) ≡ true) ⊎ (has_literal trail (negation x) ≡ false) →
        ((m : Literal) → Contains c m → (m ≡ u) ⊎ IsFalseOn trail m) →
        ((m : Literal) → Contains (x ∷ c) m → (m ≡ u) ⊎ IsFalseOn trail m) ⊎ Another trail u (x ∷ c)
    by (inl same) lost rest = inl (with_first (inl (sym same)) rest)
    by (inr unlike) (inl lost) rest = inl (with_first (inr (Contains-from_has trail (negation x) lost)) rest)
    by (inr unlike) (inr open_x) rest = inr (record {
      literal = x;
      stands = contains_first x c;
      other = not_same u x unlike;
      not_false = absent trail (negation x) open_x;
    })
