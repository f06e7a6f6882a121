use Rattle.std.proofs.Common.{◌∙◌}
use Rattle.bs_flat_nets.specs.Blocks.{design_of}
use Rattle.bs_flat_elaborate.specs.Parts.{consts_on}
use Rattle.bs_flat_elaborate.proofs.PartLemmas.{consts_are, all_paths}
use Rattle.bs_flat_elaborate.proofs.consts.flat_consts.Goals as goal

pub returns : goal.returns
returns c =
    let d = design_of c.args.blocks.now c.args.top in
    all_paths c.args.blocks.now c.args.nodes.now c.args.top c.nodes.node c.node_count-count.result (consts_on d) c.nodes.all c.requires.laid.stand c.node_count-count.ensures
    c.nodes-test.false c.nodes.invariant
    ∙ consts_are d
