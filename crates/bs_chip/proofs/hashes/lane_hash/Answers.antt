use Rattle.bs_chip.proofs.IndexLemmas.{lane_next}
use Rattle.bs_chip.proofs.hashes.lane_hash.Goals as goal

pub places-preserved : goal.places-preserved
places-preserved c =
    lane_next c.args.wide c.places.i c.args.lane c.places.hash c.hash_more-hash.result c.args.planes.now c.bit_of.result c.bit_of.ensures c.places.invariant
    c.hash_more-hash.ensures
