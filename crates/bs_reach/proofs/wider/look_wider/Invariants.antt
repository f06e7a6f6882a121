use Rattle.std.proofs.Common.{◌≤◌, ◌*◌, ◌-◌}
use Rattle.bs_reach_unrolled.specs.declared.limits.TheConstants.{MAX_FRAMES}
use Rattle.bs_reach.proofs.wider.look_wider.Given as goal

abbrev pub invariant-sizes : goal.invariant-sizes
invariant-sizes l = record {
  some : 1 ≤ l.j;
  few : l.j ≤ 4 * MAX_FRAMES;
}

abbrev pub decreases-sizes : goal.decreases-sizes
decreases-sizes l = 4 * MAX_FRAMES - l.j
