use Rattle.std.proofs.Common.{◌∙◌, [], ap, sym, map, List}
use Rattle.bs_net.specs.declared.net.NetId.{NetId}
use Rattle.bs_net.specs.Parts.{Parts}
use Rattle.bs_flat_meaning.specs.Design.{Path}
use Rattle.bs_flat_meaning.specs.Flat.{flat_net}
use Rattle.bs_flat_nets.specs.Blocks.{design_of}
use Rattle.bs_flat_nets.specs.Climbing.{path_in}
use Rattle.bs_flat_nets.proofs.WeightLemmas.{top_own}
use Rattle.bs_flat_nets.proofs.ClimbLemmas.{first_path}
use Rattle.bs_flat_elaborate.proofs.WholeLemmas.{nodes_there}
use Rattle.bs_flat_elaborate.proofs.ports.flat_outputs.Goals as goal

pub nets_of-requires-clause-there : goal.nets_of-requires-clause-there
nets_of-requires-clause-there c = nodes_there (design_of c.args.blocks.now c.args.top) c.args.nodes.now c.requires.stand

pub returns : goal.returns
returns c =
    let d = design_of c.args.blocks.now c.args.top in
    let b = c.index-blocks-top.result in
    c.in_ok-nets.ensures
    ∙ (ap (λ (nets : List NetId). map (flat_net d (path_in d 0)) nets) c.slice.ensures
    ∙ (ap (λ (p : Path). map (flat_net d p) b.outputs) (first_path d)
    ∙ ap (λ (o : Parts). map (flat_net d []) o.outputs) (sym (top_own c.args.blocks.now c.args.top b c.requires.top c.index-blocks-top.is))))
