use Rattle.std.proofs.Common.{subst}
use Rattle.bs_solve_lemmas.specs.Solver.{HasSolved}
use Rattle.bs_reach_execution.proofs.SearchLemmas.{activation_within, values_reach}
use Rattle.bs_reach_execution.proofs.search.values_by.Goals as goal

pub solve-requires-clause-range : goal.solve-requires-clause-range
solve-requires-clause-range c =
    activation_within c.args.solver.now c.begin_step.new.self c.in_ok-activation.activation c.in_ok-assumptions.assumptions c.requires.fresh c.in_ok-activation.ensures.ok
    c.in_ok-activation.ensures.activation c.in_ok-assumptions.ensures

pub returns-in-Found : goal.returns-in-Found
returns-in-Found c =
    values_reach c.args.solver.now c.begin_step.new.self c.solve.new.self c.in_ok-assumptions.assumptions c.args.conflicts c.in-Found.values
    c.in_ok-activation.ensures.ok
    (subst (HasSolved c.begin_step.new.self c.solve.new.self c.in_ok-assumptions.assumptions c.args.conflicts) c.in-Found.is c.in_ok-values.ensures.ok)
