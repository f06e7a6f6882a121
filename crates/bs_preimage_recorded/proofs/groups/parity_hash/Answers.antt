use Rattle.std.proofs.Common.{◌∙◌, ap, arith}
use Rattle.bs_scan.specs.Signature.{parity_of}
use Rattle.bs_preimage_recorded.proofs.ForwardLemmas.{parity_next}
use Rattle.bs_preimage_recorded.proofs.groups.parity_hash.Goals as goal

pub groups-preserved : goal.groups-preserved
groups-preserved c =
    parity_next c.args.groups.now c.args.bits.now c.groups.i c.groups.hash c.hash_more-hash.result c.group_at-group.result.now c.parity.result
    (omega (arith, c.groups-test.true, c.len-i-end.ensures)) c.group_at-group.ensures.lookup
    (c.parity.ensures ∙ ap (parity_of c.args.bits.now) c.slice.ensures) c.groups.invariant c.hash_more-hash.ensures
