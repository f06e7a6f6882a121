use Rattle.std.proofs.Common.{length, arith}
use Rattle.bs_lanes.specs.Planes.{lane}
use Rattle.bs_inspect_near.proofs.ValueBitLemmas.{value_more}
use Rattle.bs_inspect_near.proofs.values.value_of.Goals as goal

pub places-preserved : goal.places-preserved
places-preserved c =
    value_more (lane 1 (length c.args.words.now) c.args.words.now c.args.lane) c.args.places.now c.places.place-index _ c.places.bits c.push.new.self
    c.bit_of.result (omega (arith, c.places-test.true)) c.places.invariant c.bit_of.ensures c.in_ok-push.ensures.ok
