-- When a solver may be asked.
use Rattle.std.proofs.Common.{◌≡◌, ap, sym, ◌∙◌, inl, inr}
use Rattle.std.proofs.lemmas.Bool.{true≢false}
use Rattle.bs_clause.specs.Literal.{Clause}
use Rattle.bs_solve_lemmas.specs.declared.stage.Stage.TheVariants.{Begun, Blocked}
use Rattle.bs_solve_lemmas.specs.Stages.{is_begun}
use Rattle.bs_solve_lemmas.specs.Search.{assumed}
use Rattle.bs_solve_lemmas.specs.Solver.{SolverState, MaySolve}

-- the first time in a step
pub may_begin : (s : SolverState) (a : Clause) → s.stage ≡ Begun → MaySolve s a
may_begin s a begun = record {
  stage = λ _. inl begun;
  again = λ e. absurd (true≢false (ap is_begun (sym begun ∙ e)));
}

-- after a block, under the same assumptions
pub may_go_on : (s : SolverState) (a : Clause) → s.stage ≡ Blocked → assumed s.proof ≡ a → MaySolve s a
may_go_on s a blocked same = record { stage = λ _. inr blocked; again = λ _. same }
