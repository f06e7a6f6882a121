use Rattle.std.proofs.Common.{ap, sym, subst}
use Rattle.bs_solve_lemmas.specs.Solver.{SolverState}
use Rattle.bs_reach.specs.FailedAssumptions.{AreFailedAssumptions}
use Rattle.bs_reach.proofs.answer.start_of.Goals as goal

pub returns-clause-failed_assumptions : goal.returns-clause-failed_assumptions
returns-clause-failed_assumptions c =
    subst (λ cs. AreFailedAssumptions cs c.args.encoding.now c.args.k c.args.state.now 0 c.in_ok-failed_assumptions.failed_assumptions.items)
    (sym (ap (λ (s : SolverState). s.proof.problem.clauses) c.in_ok-solver.ensures)) c.in_ok-failed_assumptions.ensures
