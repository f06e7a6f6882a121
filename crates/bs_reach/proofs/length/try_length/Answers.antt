use Rattle.std.proofs.Common.{◌≡◌, ◌+◌, ◌*◌, subst}
use Rattle.bs_log.specs.Refusal.{history_of}
use Rattle.bs_solve_lemmas.specs.Solver.{HasSolved}
use Rattle.bs_reach_unrolled.proofs.RaisedLemmas.{assumed_range, assumed_distinct}
use Rattle.bs_reach.proofs.LengthLemmas.{begun_vars, activation_is, shown_by, spent_by, refuted_by, right_in}
use Rattle.bs_reach.proofs.length.try_length.Goals as goal

pub solve-requires-clause-range : goal.solve-requires-clause-range
solve-requires-clause-range c =
    let many : c.begin_step.new.self.vars ≡ c.args.k * c.args.encoding.now.variables + (c.args.c + 1) =
    begun_vars _ c.args.encoding.now c.args.k c.args.state.now c.args.b c.args.c c.args.solver.now c.begin_step.new.self c.requires.between
    c.in_ok-activation.ensures.ok in
    assumed_range c.args.encoding.now c.args.k c.args.c c.begin_step.new.self.vars c.args.state.now c.in_ok-activation.activation c.in_ok-assumptions.assumptions
    c.requires.unrollable c.requires.within
    (activation_is _ c.args.encoding.now c.args.k c.args.state.now c.args.b c.args.c c.args.solver.now c.requires.between c.in_ok-activation.activation c.in_ok-activation.ensures.activation)
    many c.in_ok-assumptions.ensures

pub solve-requires-clause-distinct : goal.solve-requires-clause-distinct
solve-requires-clause-distinct c =
    assumed_distinct c.args.encoding.now c.args.k c.args.c c.args.state.now c.in_ok-activation.activation c.in_ok-assumptions.assumptions c.requires.unrollable
    c.requires.within
    (activation_is _ c.args.encoding.now c.args.k c.args.state.now c.args.b c.args.c c.args.solver.now c.requires.between c.in_ok-activation.activation c.in_ok-activation.ensures.activation)
    c.in_ok-assumptions.ensures

pub returns-in-Found : goal.returns-in-Found
returns-in-Found c =
    shown_by _ c.args.encoding.now c.args.k c.args.state.now c.args.b c.args.c c.args.solver.now c.requires.between c.begin_step.new.self c.solve.new.self
    c.end_step.new.self c.in_ok-assumptions.assumptions c.in_ok-activation.activation c.in-Found.values
    (right_in c.args.solver.now.proof.problem c.args.solver.now.proof.history (history_of c.log.result.now) c.log.ensures.lines c.log.ensures.right)
    c.in_ok-activation.ensures.ok c.in_ok-activation.ensures.activation c.in_ok-assumptions.ensures
    (subst (HasSolved c.begin_step.new.self c.solve.new.self c.in_ok-assumptions.assumptions c.args.b) c.in-Found.is c.in_ok-values.ensures.ok)
    c.in_ok-end_step-in-Found.ensures.ok

pub returns-in-Refuted : goal.returns-in-Refuted
returns-in-Refuted c =
    refuted_by _ c.args.encoding.now c.args.k c.args.state.now c.args.b c.args.c c.args.solver.now c.requires.between c.begin_step.new.self c.solve.new.self
    c.end_step-in-Refuted.new.self c.in_ok-assumptions.assumptions c.in_ok-activation.activation c.in-Refuted.id
    c.in_ok-activation.ensures.ok c.in_ok-activation.ensures.activation c.in_ok-assumptions.ensures
    (subst (HasSolved c.begin_step.new.self c.solve.new.self c.in_ok-assumptions.assumptions c.args.b) c.in-Refuted.is c.in_ok-values.ensures.ok)
    c.in_ok-end_step-in-Refuted.ensures.ok

pub returns : goal.returns
returns c =
    spent_by _ c.args.encoding.now c.args.k c.args.state.now c.args.b c.args.c c.args.solver.now c.requires.between c.begin_step.new.self c.solve.new.self
    c.end_step-in-Spent.new.self c.in_ok-assumptions.assumptions c.in_ok-activation.activation
    (right_in c.args.solver.now.proof.problem c.args.solver.now.proof.history (history_of c.log.result.now) c.log.ensures.lines c.log.ensures.right)
    c.in_ok-activation.ensures.ok c.in_ok-activation.ensures.activation c.in_ok-assumptions.ensures
    (subst (HasSolved c.begin_step.new.self c.solve.new.self c.in_ok-assumptions.assumptions c.args.b) c.in-Spent.is c.in_ok-values.ensures.ok)
    c.in_ok-end_step-in-Spent.ensures.ok
