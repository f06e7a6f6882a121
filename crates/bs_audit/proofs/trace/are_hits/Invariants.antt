use Rattle.std.proofs.Common.{◌≡◌, drop}
use Rattle.std.specs.Prelude.{reverse, filter_map}
use Rattle.bs_report.specs.Trace.{hit_state}
use Rattle.bs_report.specs.Valid.{all_bits_eq}
use Rattle.bs_audit.proofs.trace.are_hits.Given as goal

abbrev pub invariant-steps : goal.invariant-steps
invariant-steps l =
    all_bits_eq l.states (reverse (filter_map hit_state l.steps)) ≡ all_bits_eq l.left (reverse (filter_map hit_state (drop l.step-index l.steps)))
