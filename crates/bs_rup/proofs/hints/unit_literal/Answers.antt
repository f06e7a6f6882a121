use Rattle.std.proofs.Common.{sym, ◌∙◌}
use Rattle.bs_rup.proofs.Lists.{two_open}
use Rattle.bs_rup.proofs.hints.unit_literal.Goals as goal

pub returns-then-is_some : goal.returns-then-is_some
returns-then-is_some c =
    sym (two_open c.args.trail.now c.args.clause.now c.loop-l.l-index c.l-item.result c.loop-l.found c.loop-l-test.true c.l-item.is
    (sym c.is_false.ensures ∙ c.if-not-is_false.true) c.loop-l.invariant (sym c.is_some.ensures ∙ c.if-is_some.true))
