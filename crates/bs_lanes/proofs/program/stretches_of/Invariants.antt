use Rattle.std.proofs.Common.{◌≡◌, ◌≤◌, ◌-◌, length, take}
use Rattle.bs_lanes.specs.Program.{program_gates}
use Rattle.bs_lanes.specs.Layout.{placed_gates}
use Rattle.bs_lanes.proofs.program.stretches_of.Given as goal

abbrev pub decreases-stretches : goal.decreases-stretches
decreases-stretches l = length l.order - l.at

abbrev pub invariant-stretches : goal.invariant-stretches
invariant-stretches l = record {
  within : l.at ≤ length l.order;
  so_far : program_gates l.stretches ≡ take l.at (placed_gates l.places l.order l.gates);
}
