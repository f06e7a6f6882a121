use Rattle.std.proofs.Common.{◌≤◌}
use Rattle.bs_chip.specs.Alike.{NoneShowing}
use Rattle.bs_chip.proofs.alike.next_showing.Given as goal

abbrev pub invariant-runs : goal.invariant-runs
invariant-runs l = record {
  from_on : l.from ≤ l.lane;
  none : NoneShowing l.choice l.pass.runs l.planes l.stored l.cycle l.from l.lane;
}
