use Rattle.std.proofs.Common.{◌≡◌, drop, reverse, filter_map}
use Rattle.bs_report.specs.Trace.{hit_state}
use Rattle.bs_loop.proofs.trace.states_back.Given as goal

abbrev pub invariant-steps : goal.invariant-steps
invariant-steps l = l.states ≡ reverse (filter_map hit_state (drop l.i l.steps))
