use Rattle.std.proofs.Common.{arith}
use Rattle.bs_inspect_near.proofs.ValueBitLemmas.{value_more}
use Rattle.bs_inspect_near.proofs.novelty.value_in.Goals as goal

pub places-preserved : goal.places-preserved
places-preserved c =
    value_more c.args.state.now c.args.places.now c.places.place-index _ c.places.bits c.push.new.self c.bit_at.result
    (omega (arith, c.places-test.true)) c.places.invariant c.bit_at.ensures c.in_ok-push.ensures.ok
