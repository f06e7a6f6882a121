use Rattle.std.proofs.Common.{◌+◌, ap, sym, subst}
use Rattle.bs_reach_unrolled.specs.Unrolled.{length_assumes}
use Rattle.bs_solve.specs.Failure.{FailsBy}
use Rattle.bs_solve_lemmas.specs.Stages.{is_solved}
use Rattle.bs_solve_lemmas.specs.Solver.{SolverState}
use Rattle.bs_reach.proofs.LengthLemmas.{activation_is, refuted_by}
use Rattle.bs_reach.proofs.FailedAssumptionLemmas.{due_of}
use Rattle.bs_reach.proofs.length.deny_length.Goals as goal

pub solve_denied-requires-clause-failed_assumption : goal.solve_denied-requires-clause-failed_assumption
solve_denied-requires-clause-failed_assumption c =
    let due = due_of c.args.encoding.now c.args.k c.args.c c.args.state.now c.in_ok-activation.activation c.in_ok-assumed.assumed
    (activation_is _ c.args.encoding.now c.args.k c.args.state.now c.args._b c.args.c c.args.solver.now c.requires.between c.in_ok-activation.activation
    c.in_ok-activation.ensures.activation)
    c.in_ok-assumed.ensures in
    subst (λ a. FailsBy c.begin_step.new.self.proof.problem.clauses a c.args.failed_assumption) (sym due)
    (subst (λ (s : SolverState). FailsBy s.proof.problem.clauses (length_assumes c.args.encoding.now c.args.k c.args.state.now (c.args.c + 1)) c.args.failed_assumption) (sym c.in_ok-activation.ensures.ok) c.requires.failed_assumption)

pub end_step-requires-clause-stage : goal.end_step-requires-clause-stage
end_step-requires-clause-stage c = λ well. ap is_solved (c.in_ok-end.ensures.ok.solved c.args._b c.requires.limit).stage

pub end_step-requires-clause-end : goal.end_step-requires-clause-end
end_step-requires-clause-end c = λ well. (c.in_ok-end.ensures.ok.solved c.args._b c.requires.limit).stage

pub returns : goal.returns
returns c =
    refuted_by _ c.args.encoding.now c.args.k c.args.state.now c.args._b c.args.c c.args.solver.now c.requires.between c.begin_step.new.self
    c.solve_denied.new.self c.end_step.new.self c.in_ok-assumed.assumed c.in_ok-activation.activation c.in_ok-end.end
    c.in_ok-activation.ensures.ok c.in_ok-activation.ensures.activation c.in_ok-assumed.ensures
    (c.in_ok-end.ensures.ok.solved c.args._b c.requires.limit)
    c.in_ok-end_step.ensures.ok
