-- A recorded run beside a simulation: the flip-flops, and the data inputs (docs/FORMATS.md, "Texts of `backspace_inspect`").
use Rattle.std.specs.Prelude.{ℕ, ◌-◌, ◌==◌, ◌&&◌, Bool, List, length, Option, Result, Ok}
use Rattle.std.specs.List.{list_all}
use Rattle.bs_bits.specs.Reading.{◌>>=◌}
use Rattle.bs_net.specs.Netlist.{circuit_of}
use Rattle.bs_net.specs.Parts.{Parts}
use Rattle.bs_stim.specs.Runs.{Recorded, Stimulus, run_at}
use Rattle.bs_vcd_header.specs.declared.fault.VcdFault.{VcdFault}
use Rattle.bs_vcd.specs.Stimulus.{stimulus_in}
use Rattle.bs_inspect_report.specs.Keys.{input_keys}
use Rattle.bs_inspect_check.specs.declared.comparison.Comparison.{Comparison}
use Rattle.bs_inspect_check.specs.declared.comparison.RunOrigin.{RunOrigin}
use Rattle.bs_inspect_check.specs.declared.flops.FlopComparison.{FlopComparison}
use Rattle.bs_inspect_check.specs.declared.inputs.InputComparison.{InputComparison}
use Rattle.bs_inspect_check.specs.Flops.{flops_compared}
use Rattle.bs_inspect_check.specs.Inputs.{inputs_compared}

-- the name of a run, and that of the file of its VCD
abbrev pub origin_of : Recorded → (file : List ℕ) → RunOrigin
origin_of run file = record { run = run.name; file = file }

abbrev pub whole : RunOrigin → FlopComparison → InputComparison → Comparison
whole origin flops inputs = record { origin = origin; flops = flops; inputs = inputs }

-- The run with a number beside the text of a VCD, which stands in the file with this name: its flip-flops, which have these names, and
-- its data inputs, by their keys. Or the first fault of the text: of the declarations, of the names, or of the value changes.
abbrev pub compared_in : Parts → Stimulus → (number : ℕ) → (file text : List ℕ) → Option (List ℕ) → (clock : List ℕ) → (names : List (List ℕ)) →
    Result Comparison VcdFault
compared_in raw s number file text scope clock names =
    flops_compared (circuit_of raw) (run_at s number).inputs text scope clock names >>=
    λ flops. Ok (whole (origin_of (run_at s number) file) flops (inputs_compared s (number - 1) (stimulus_in text scope clock (input_keys raw))))

-- no flip-flop and no data input differs in a cycle that both have
abbrev pub agrees : Comparison → Bool
agrees m = (length m.flops.differing == 0) && (length m.inputs.differing == 0)

-- no run differs from its VCD
abbrev pub all_agree : List Comparison → Bool
all_agree comparisons = list_all agrees comparisons
