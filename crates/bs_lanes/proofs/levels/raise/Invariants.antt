use Rattle.std.proofs.Common.{◌≡◌, ◌≤◌, ◌*◌, drop, length}
use Rattle.std.specs.List.{All}
use Rattle.bs_net.specs.Order.{gates_in}
use Rattle.bs_lanes.specs.Levels.{raised}
use Rattle.bs_lanes.proofs.levels.raise.Given as goal

abbrev pub invariant-gates : goal.invariant-gates
invariant-gates l = record {
  size : length l.levels ≡ length l.initial.levels;
  left : raised (gates_in (drop l.i l.order) l.gates) l.levels ≡ raised (gates_in l.order l.gates) l.initial.levels;
  low : All (λ level. level ≤ l.i * 32) l.levels;
}
