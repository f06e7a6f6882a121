use Rattle.std.proofs.Common.{arith}
use Rattle.bs_inspect_causes.proofs.UnitLemmas.{keeps_all}
use Rattle.bs_inspect_causes.proofs.units.distinct.Goals as goal

pub facts-preserved : goal.facts-preserved
facts-preserved c = c.in_ok-push_new.ensures

pub returns : goal.returns
returns c = keeps_all c.args.facts.now c.facts.kept c.facts.i (omega (arith, c.facts-test.false)) c.facts.invariant
