use Rattle.std.proofs.Common.{arith}
use Rattle.bs_chip.proofs.LaneLemmas.{all_read}
use Rattle.bs_chip.proofs.lanes.read_lane.Goals as goal

pub returns : goal.returns
returns c =
    all_read c.args.wide c.args.planes.now c.args.lane c.args.into.now c.places.into c.places.i
    (omega (arith, c.places-test.false, c.places.auto, c.len-i-end.ensures, c.places.invariant.size)) c.places.invariant
