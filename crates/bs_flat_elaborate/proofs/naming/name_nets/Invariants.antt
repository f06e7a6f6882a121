use Rattle.std.proofs.Common.{map, take}
use Rattle.bs_flat_nets.specs.Blocks.{design_of}
use Rattle.bs_flat_elaborate.specs.Keys.{key_of_place}
use Rattle.bs_flat_elaborate.specs.Naming as spec
use Rattle.bs_flat_elaborate.proofs.naming.name_nets.Given as goal

abbrev pub invariant-nets : goal.invariant-nets
invariant-nets l = record {
  label : spec.IsLabel l.blocks l.nodes l.label;
  made : spec.IsMade (map (key_of_place (design_of l.blocks l.top)) (take l.place-index l.places)) l.made;
}
