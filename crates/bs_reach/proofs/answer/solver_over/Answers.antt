use Rattle.bs_reach_unrolled.proofs.UnrolledLemmas.{solver_range, solver_distinct}
use Rattle.bs_reach.proofs.answer.solver_over.Goals as goal

pub new-requires-clause-range : goal.new-requires-clause-range
new-requires-clause-range c =
    solver_range c.args.encoding.now c.args.reset.now c.args.k c.vars.result c.in_ok-clauses.clauses c.requires.unrollable c.in_ok-clauses.ensures
    c.vars.ensures

pub new-requires-clause-distinct : goal.new-requires-clause-distinct
new-requires-clause-distinct c =
    solver_distinct c.args.encoding.now c.args.reset.now c.args.k c.in_ok-clauses.clauses c.requires.unrollable c.in_ok-clauses.ensures
