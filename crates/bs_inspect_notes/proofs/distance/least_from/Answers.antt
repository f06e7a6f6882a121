use Rattle.std.proofs.Common.{arith}
use Rattle.bs_inspect_notes.proofs.NearLemmas.{least_end, least_more}
use Rattle.bs_inspect_notes.proofs.distance.least_from.Goals as goal

pub names-preserved : goal.names-preserved
names-preserved c =
    rw (c.min-least.ensures, c.far.ensures)
    (least_more c.args.name.now c.args.names.now c.names.other-index _ c.names.least _ c.names-test.true c.names.invariant)

pub returns : goal.returns
returns c = least_end c.args.name.now c.args.names.now c.names.other-index c.names.least _ (omega (arith, c.names-test.false)) c.names.invariant
