use Rattle.std.proofs.Common.{arith}
use Rattle.bs_inspect_near.proofs.StateLemmas.{known_more}
use Rattle.bs_inspect_near.proofs.states.known_bits.Goals as goal

pub places-preserved : goal.places-preserved
places-preserved c =
    known_more c.args.seen.now c.places.known c.push_known.new.known c.places.i c.is_free.result c.get.result
    (omega (arith, c.places-test.true, c.len-i-end.ensures)) c.places.invariant c.is_free.ensures c.get.ensures.value c.in_ok-push_known.ensures
