use Rattle.std.proofs.Common.{◌≡◌, drop}
use Rattle.std.specs.Prelude.{reverse, filter_map, option_and_then}
use Rattle.bs_report.specs.Trace.{hit_state, input_for, trace_inputs}
use Rattle.bs_report.specs.Valid.{all_bits_eq}
use Rattle.bs_audit.proofs.trace.are_inputs.Given as goal

abbrev pub invariant-steps : goal.invariant-steps
invariant-steps l =
    all_bits_eq l.inputs (trace_inputs l.steps)
    ≡ all_bits_eq l.left (reverse (filter_map (λ step. option_and_then (input_for step) (hit_state step)) (drop l.step-index l.steps)))
