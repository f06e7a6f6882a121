-- What a solve's lemmas do to the budget.
use Rattle.std.proofs.Common.{◌≡◌, ℕ, ◌+◌, ◌≤◌, Bool, true, List, [], ◌∷◌, ◌++◌, length, refl, arith}
use Rattle.std.specs.List.{AllByRecursion as Each}
use Rattle.std.proofs.lemmas.Bool.{false≢true}
use Rattle.bs_log.specs.declared.line.Line.{Line}
use Rattle.bs_log.specs.declared.line.Line.TheVariants.{Solve, Lemma, Block, Finish, Retire, Delete}
use Rattle.bs_log.specs.History.{History}
use Rattle.bs_log.specs.Steps.{is_lemma_line}
use Rattle.bs_solve.specs.Budget.{last_lemmas, HasFewLemmas}

-- behind the line of a solve each line is counted
pub lemmas_counted : (lemmas : List Line) (h : History) → Each (λ line. is_lemma_line line ≡ true) lemmas → last_lemmas (lemmas ++ Solve ∷ h) ≡ length lemmas
lemmas_counted [] h all = refl
lemmas_counted (Lemma id lits hints ∷ lemmas) h all = let rest = lemmas_counted lemmas h all.1 in omega (arith, rest)
lemmas_counted (Solve ∷ lemmas) h all = absurd (false≢true all.0)
lemmas_counted (Block id lits ∷ lemmas) h all = absurd (false≢true all.0)
lemmas_counted (Finish id ∷ lemmas) h all = absurd (false≢true all.0)
lemmas_counted (Retire id ∷ lemmas) h all = absurd (false≢true all.0)
lemmas_counted (Delete ids ∷ lemmas) h all = absurd (false≢true all.0)

-- a solve that logs no more lemmas than the limit keeps it
pub few_lemmas : (limit : ℕ) (lemmas : List Line) (h : History) → Each (λ line. is_lemma_line line ≡ true) lemmas → length lemmas ≤ limit →
    HasFewLemmas limit h → HasFewLemmas limit (lemmas ++ Solve ∷ h)
few_lemmas limit [] h all n few = few
few_lemmas limit (Lemma id lits hints ∷ lemmas) h all n few =
    let count = lemmas_counted lemmas h all.1 in
    (omega (arith, count, n), few_lemmas limit lemmas h all.1 (omega (arith, n)) few)
few_lemmas limit (Solve ∷ lemmas) h all n few = absurd (false≢true all.0)
few_lemmas limit (Block id lits ∷ lemmas) h all n few = absurd (false≢true all.0)
few_lemmas limit (Finish id ∷ lemmas) h all n few = absurd (false≢true all.0)
few_lemmas limit (Retire id ∷ lemmas) h all n few = absurd (false≢true all.0)
few_lemmas limit (Delete ids ∷ lemmas) h all n few = absurd (false≢true all.0)
