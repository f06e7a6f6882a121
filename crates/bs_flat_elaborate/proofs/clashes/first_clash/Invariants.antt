use Rattle.bs_flat_nets.specs.Blocks.{design_of}
use Rattle.bs_flat_elaborate.specs.Naming as spec
use Rattle.bs_flat_elaborate.proofs.clashes.first_clash.Given as goal

abbrev pub invariant-nets : goal.invariant-nets
invariant-nets l = record {
  label : spec.IsLabel l.blocks l.nodes l.label;
  searched : spec.IsSearched (spec.keys_of (design_of l.blocks l.top)) l.at l.later l.first;
}

abbrev pub decreases-nets : goal.decreases-nets
decreases-nets l = l.at
