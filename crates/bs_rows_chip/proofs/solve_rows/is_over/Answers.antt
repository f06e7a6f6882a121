use Rattle.std.proofs.Common.{◌≡◌, ◌≤◌, ◌<◌, length, take, subst, arith}
use Rattle.std.proofs.lemmas.List.{take_all}
use Rattle.std.proofs.lemmas.List.Elements.{All-more}
use Rattle.bs_clause.specs.Range.{IsWithin, HasVariables}
use Rattle.bs_rows_chip.proofs.solve_rows.is_over.Goals as goal

pub loop-l-preserved : goal.loop-l-preserved
loop-l-preserved c =
    All-more (IsWithin c.args.vars) c.args.clause.now c.loop-l.l-index c.l-item.result c.loop-l-test.true c.loop-l.invariant
    (subst (IsWithin c.args.vars) c.l-item.is (c.var.ensures.range.0, omega (arith, c.if-vars-var.false, c.var.ensures.variable)))

pub returns : goal.returns
returns c = subst (HasVariables c.args.vars) (take_all c.loop-l.l-index c.args.clause.now (omega arith)) c.loop-l.invariant
