-- Conflict analysis makes chains.
use Rattle.std.proofs.Common.{◌≡◌, true, List, [], ◌∷◌, ◌++◌, get_or, sym, ap, subst, ◌∙◌, inl, inr, ◌⊎◌}
use Rattle.std.specs.Prelude.{All}
use Rattle.std.specs.List.{AllByRecursion}
use Rattle.std.proofs.lemmas.Bool.{or_left, or_right}
use Rattle.std.proofs.lemmas.List.Elements.{recursion_from_All, All-contains, All-from_recursion}
use Rattle.bs_clause.specs.Literal.{Literal, Clause, negation, same_literal, has_literal}
use Rattle.bs_log.specs.Propagation.{start_of}
use Rattle.bs_solve_lemmas.specs.Chain.{IsDenied}
use Rattle.bs_solve_lemmas.specs.Derives.{DerivesAtConflict, DerivesBackwards, DerivesLemma}
use Rattle.bs_solve_lemmas.proofs.Literals.{same_literal-refl, negation-negation}

-- the negation of the newest true literal is denied
denied_by_newest : (lemma : Clause) (trues : List Literal) (p : Literal) → IsDenied lemma (p ∷ trues) (negation p)
denied_by_newest lemma trues p =
    or_left (same_literal (negation (negation p)) p) (has_literal (trues ++ start_of lemma) (negation (negation p)))
    (ap (λ x. same_literal x p) (negation-negation p) ∙ same_literal-refl p)

denied_later : (lemma : Clause) (trues : List Literal) (p m : Literal) → IsDenied lemma trues m → IsDenied lemma (p ∷ trues) m
denied_later lemma trues p m h = or_right (same_literal (negation m) p) (has_literal (trues ++ start_of lemma) (negation m)) h

pub derives_at_conflict : DerivesAtConflict
derives_at_conflict last = λ lemma trues denied fresh. recursion_from_All (IsDenied lemma trues) last denied

pub derives_backwards : DerivesBackwards
derives_backwards falses next links last k d stands distinct old new =
    λ lemma trues denied fresh.
    let old_denied : All (IsDenied lemma (k.literal ∷ trues)) falses = λ i x h.
    elim (old i x h) [
      | inl same ↦ subst (IsDenied lemma (k.literal ∷ trues)) (sym same) (denied_by_newest lemma trues k.literal)
      | inr there ↦ denied_later lemma trues k.literal (get_or falses i x) (All-contains (IsDenied lemma trues) next (get_or falses i x) denied there)
    ] in
    let new_denied : All (λ m. (m ≡ k.literal) ⊎ IsDenied lemma trues m) k.clause = λ i x h.
    elim (new i x h) as (λ _. (get_or k.clause i x ≡ k.literal) ⊎ IsDenied lemma trues (get_or k.clause i x)) [
      | inl same ↦ inl same
      | inr there ↦ inr (All-contains (IsDenied lemma trues) next (get_or k.clause i x) denied there)
    ] in (
      stands,
      distinct,
      fresh.0,
      fresh.1,
      recursion_from_All (λ m. (m ≡ k.literal) ⊎ IsDenied lemma trues m) k.clause new_denied,
      d lemma (k.literal ∷ trues) old_denied fresh.2,
    )

-- each literal of the lemma is denied by its negation
own_denied : (lemma ls : Clause) → ((m : Literal) → has_literal (start_of ls) m ≡ true → has_literal (start_of lemma) m ≡ true) →
    AllByRecursion (IsDenied lemma []) ls
own_denied lemma [] into = tt
own_denied lemma (l ∷ ls) into = (
  into (negation l) (or_left (same_literal (negation l) (negation l)) (has_literal (start_of ls) (negation l)) (same_literal-refl (negation l))),
  own_denied lemma ls (λ m h. into m (or_right (same_literal m (negation l)) (has_literal (start_of ls) m) h)),
)

pub derives_lemma : DerivesLemma
derives_lemma lemma links last d fresh = d lemma [] (All-from_recursion (IsDenied lemma []) lemma (own_denied lemma lemma (λ m h. h))) fresh
