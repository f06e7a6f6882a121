use Rattle.bs_inspect_notes.proofs.NearLemmas.{far_bits}
use Rattle.bs_inspect_notes.proofs.distance.far.Goals as goal

pub returns : goal.returns
returns c =
    far_bits c.args.name.now c.args.other.now _ _ _ c.key_parts-one.result c.key_parts-two.result _ _ _ _ c.key_parts-one.ensures c.key_parts-two.ensures c.plain.ensures c.plain-base.ensures
    c.is_text.ensures c.if-is_text.false c.plain-2.ensures c.same_bit.ensures c.bases_apart.ensures c.by_bits.ensures
