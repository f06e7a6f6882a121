use Rattle.std.proofs.Common.{◌∙◌, ap, sym}
use Rattle.bs_flat_nets.specs.Blocks.{design_of}
use Rattle.bs_flat_nets.specs.declared.climbing.NetOnPath.{NetOnPath}
use Rattle.bs_flat_elaborate.specs.Keys.{key_of_place}
use Rattle.bs_flat_elaborate.proofs.NamingLemmas.{key_read}
use Rattle.bs_flat_elaborate.proofs.clashes.key_of.Goals as goal

pub returns : goal.returns
returns c =
    let d = design_of c.args.blocks.now c.args.top in
    c.in_ok-key-2.ensures
    ∙ (c.deref.ensures
    ∙ (c.in_ok-key.ensures.is
    ∙ (ap (λ (p : NetOnPath). key_of_place d p) c.get-place.ensures.value
    ∙ sym (key_read c.args.blocks.now c.args.nodes.now c.args.top c.args.numbering.now c.args.at c.get-place.result.now c.requires.laid c.requires.there))))
