use Rattle.std.proofs.Common.{◌≡◌, false, sym, subst}
use Rattle.bs_log.specs.Refusal.{history_of, NoneRefused}
use Rattle.bs_log.specs.Lean.{LemmasAreLean, StepsLeaveKept}
use Rattle.bs_solve_lemmas.specs.Solver.{SolverState}
use Rattle.bs_solve.proofs.solver.Solver.into_log.Goals as goal

pub returns-clause-lines : goal.returns-clause-lines
returns-clause-lines c = subst (λ (s : SolverState). history_of c.into_log.result ≡ s.proof.history) c.self.view_is c.into_log.ensures.lines

pub returns-clause-right : goal.returns-clause-right
returns-clause-right c =
    subst (λ (s : SolverState). NoneRefused s.proof.problem (history_of c.into_log.result)) c.self.view_is c.into_log.ensures.right

pub returns-clause-lean : goal.returns-clause-lean
returns-clause-lean c =
    subst (λ (s : SolverState). LemmasAreLean s.proof.problem (history_of c.into_log.result)) c.self.view_is c.into_log.ensures.lean

pub returns-clause-texts : goal.returns-clause-texts
returns-clause-texts c = c.into_log.ensures.texts

pub returns-clause-steps : goal.returns-clause-steps
returns-clause-steps c =
    subst (λ (s : SolverState). s.failed ≡ false → StepsLeaveKept s.proof.problem (history_of c.into_log.result)) c.self.view_is
    (λ well. subst (StepsLeaveKept c.self.inside.proof.problem) (sym c.into_log.ensures.lines) (c.self.invariant.whole.ready.leaves well))
