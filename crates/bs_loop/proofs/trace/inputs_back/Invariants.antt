use Rattle.std.proofs.Common.{◌≡◌, drop, reverse, filter_map, option_and_then}
use Rattle.bs_report.specs.Trace.{hit_state, input_for}
use Rattle.bs_loop.proofs.trace.inputs_back.Given as goal

abbrev pub invariant-steps : goal.invariant-steps
invariant-steps l = l.inputs ≡ reverse (filter_map (λ step. option_and_then (input_for step) (hit_state step)) (drop l.i l.steps))
