use Rattle.std.proofs.Common.{arith}
use Rattle.bs_chip.proofs.IndexLemmas.{hash_next}
use Rattle.bs_chip.proofs.hashes.hash_of.Goals as goal

pub bits-preserved : goal.bits-preserved
bits-preserved c =
    hash_next c.args.bits.now c.bits.i c.bits.hash c.hash_more-hash.result c.get.result (omega
    (arith, c.bits-test.true, c.len-i-end.ensures)) c.get.ensures.value c.bits.invariant
    c.hash_more-hash.ensures
