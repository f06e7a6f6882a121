use Rattle.std.proofs.Common.{◌≡◌, ◌++◌, take}
use Rattle.std.specs.List.{flat_map}
use Rattle.bs_flat_nets.specs.Blocks.{design_of}
use Rattle.bs_flat_nets.specs.Climbing.{path_in}
use Rattle.bs_flat_elaborate.specs.Parts.{const_on}
use Rattle.bs_flat_elaborate.proofs.consts.add_consts.Given as goal

abbrev pub invariant-consts : goal.invariant-consts
invariant-consts l =
    l.all ≡ l.initial.all ++ flat_map (const_on (design_of l.blocks l.top) (path_in (design_of l.blocks l.top) l.node)) (take l.constant-index l.consts)
