-- Where other candidates of a list differ from the one that the trace goes through.
use Rattle.std.specs.Prelude.{ℕ, ◌+◌, ◌-◌, ◌==◌, Bool, List, [], ◌∷◌, length, map, slice_get, Option, Some, None, if◌then◌else◌}
use Rattle.std.specs.List.{range_with_len}
use Rattle.bs_report.specs.declared.report.Report.{Report}
use Rattle.bs_report.specs.declared.report.Step.{Step}
use Rattle.bs_inspect_report.specs.Steps.{differing_bits}

-- the flip-flops at which candidates of a step differ
abbrev pub open_of : Option Step → List Bool
open_of None = []
open_of (Some step) = differing_bits step.cands

-- the step whose list has a state of the trace: the dump is in none, the state before it in the first, and so on
abbrev pub step_of : Report → ℕ → Option Step
step_of r i = if i + 1 == length r.states then None else slice_get r.steps (length r.states - 2 - i)

-- the flip-flops that are open in each state of the trace
abbrev pub opens_of : Report → List (List Bool)
opens_of r = map (λ i. open_of (step_of r i)) (range_with_len 0 (length r.states))
