use Rattle.std.proofs.Common.{◌∙◌}
use Rattle.bs_flat_nets.specs.Blocks.{design_of}
use Rattle.bs_flat_elaborate.specs.Parts.{flops_on}
use Rattle.bs_flat_elaborate.proofs.PartLemmas.{flops_are, all_paths}
use Rattle.bs_flat_elaborate.proofs.flops.flat_flops.Goals as goal

pub returns : goal.returns
returns c =
    let d = design_of c.args.blocks.now c.args.top in
    all_paths c.args.blocks.now c.args.nodes.now c.args.top c.nodes.node c.node_count-count.result (flops_on d) c.nodes.all c.requires.laid.stand c.node_count-count.ensures
    c.nodes-test.false c.nodes.invariant
    ∙ flops_are d
