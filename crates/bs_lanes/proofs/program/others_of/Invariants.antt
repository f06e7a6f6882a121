use Rattle.std.proofs.Common.{◌≡◌, take}
use Rattle.bs_lanes.specs.Layout.{placed_gates}
use Rattle.bs_lanes.proofs.program.others_of.Given as goal

abbrev pub invariant-gates : goal.invariant-gates
invariant-gates l = l.others ≡ take l.i (placed_gates l.places l.order l.gates)
