use Rattle.std.proofs.Common.{◌≡◌, take}
use Rattle.std.specs.List.{flat_map}
use Rattle.bs_flat_meaning.specs.Design.{paths}
use Rattle.bs_flat_nets.specs.Blocks.{design_of}
use Rattle.bs_flat_elaborate.specs.Parts.{gates_on}
use Rattle.bs_flat_elaborate.proofs.gates.flat_gates.Given as goal

abbrev pub invariant-nodes : goal.invariant-nodes
invariant-nodes l = l.all ≡ flat_map (gates_on (design_of l.blocks l.top)) (take l.node (paths (design_of l.blocks l.top)))
