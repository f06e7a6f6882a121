use Rattle.bs_inspect_near.proofs.StateLemmas.{with_more}
use Rattle.bs_inspect_near.proofs.states.bits_with.Goals as goal

pub places-preserved : goal.places-preserved
places-preserved c =
    with_more c.args.seen.now c.args.known.now c.places.bits c.push.new.self c.places.i c.places.next c.one_if.result c.is_free.result c.bit_with.result
    c.is_free.ensures c.one_if.ensures.is c.bit_with.ensures c.in_ok-push.ensures.ok c.places.invariant
