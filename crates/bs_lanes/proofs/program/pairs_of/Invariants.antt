use Rattle.std.proofs.Common.{◌≡◌, length, take}
use Rattle.bs_lanes.specs.Program.{pair_gates}
use Rattle.bs_lanes.specs.Layout.{placed_gates}
use Rattle.bs_lanes.proofs.program.pairs_of.Given as goal

abbrev pub invariant-gates : goal.invariant-gates
invariant-gates l = record {
  count : length l.pairs ≡ l.i;
  so_far : pair_gates l.kind l.start l.pairs ≡ take l.i (placed_gates l.places l.order l.gates);
}
