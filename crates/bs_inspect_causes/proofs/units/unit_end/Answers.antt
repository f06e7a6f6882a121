use Rattle.std.proofs.Common.{arith, rules}
use Rattle.bs_inspect_causes.proofs.UnitLemmas.{like_more}
use Rattle.bs_inspect_causes.proofs.units.unit_end.Goals as goal

pub facts-preserved : goal.facts-preserved
facts-preserved c =
    like_more c.args.basis.now.drivers.now c.args.first.cycle c.args.flop c.args.facts.now c.args.from c.facts.i _ (omega (arith, c.facts-test.true))
    c.facts.invariant (c.is_like.ensures (search rules))
