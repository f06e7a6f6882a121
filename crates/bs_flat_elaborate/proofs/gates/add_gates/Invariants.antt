use Rattle.std.proofs.Common.{◌≡◌, ◌++◌, map, take}
use Rattle.bs_flat_nets.specs.Blocks.{design_of}
use Rattle.bs_flat_nets.specs.Climbing.{path_in}
use Rattle.bs_flat_elaborate.specs.Parts.{gate_on}
use Rattle.bs_flat_elaborate.proofs.gates.add_gates.Given as goal

abbrev pub invariant-gates : goal.invariant-gates
invariant-gates l = l.all ≡ l.initial.all ++ map (gate_on (design_of l.blocks l.top) (path_in (design_of l.blocks l.top) l.node)) (take l.gate-index l.gates)
