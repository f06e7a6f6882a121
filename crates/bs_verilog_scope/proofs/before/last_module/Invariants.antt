use Rattle.std.proofs.Common.{◌≡◌, ◌≤◌}
use Rattle.bs_verilog_scope.specs.Before.{last_module}
use Rattle.bs_verilog_scope.proofs.before.last_module.Given as goal

abbrev pub decreases-places : goal.decreases-places
decreases-places l = l.end

abbrev pub invariant-places : goal.invariant-places
invariant-places l = record {
  within : l.end ≤ l.below;
  same : last_module l.text l.end ≡ last_module l.text l.below;
}
