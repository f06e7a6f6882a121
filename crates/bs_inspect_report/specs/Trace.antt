-- The trace of a report with the names of a netlist (docs/FORMATS.md, "Texts of `backspace_inspect`").
use Rattle.std.specs.Prelude.{◌≡◌, ℕ, ◌+◌, ◌-◌, ◌==◌, ◌&&◌, ◌||◌, not, Bool, List, [], ◌++◌, length, codes, decimal, slice_get, Option, Some, None}
use Rattle.std.specs.Prelude.{if◌then◌else◌}
use Rattle.std.specs.List.{flat_map, range_with_len}
use Rattle.bs_bits.specs.Lines.{line}
use Rattle.bs_inspect_view.specs.Signals.{AreSignals, Signal}
use Rattle.bs_net.specs.Parts.{Parts}
use Rattle.bs_report.specs.declared.report.Report.{Report}
use Rattle.bs_inspect_report.specs.Execution.{is_execution, place_word}
use Rattle.bs_inspect_report.specs.Keys.{flop_keys, input_keys}
use Rattle.bs_inspect_report.specs.Recorded.{step_moment}
use Rattle.bs_inspect_report.specs.Signal.{signals_lines}
use Rattle.bs_inspect_report.specs.Window.{shown_piece}
use Rattle.bs_inspect_report.specs.declared.window.Window.{Window}

-- the moment at which a state was recorded
abbrev pub moment_words : Option (ℕ × ℕ) → List ℕ
moment_words None = codes " state none"
moment_words (Some moment) = codes " state hit " ++ (decimal moment.0 ++ (codes " " ++ decimal moment.1))

-- where a state of a backtrace comes from: the last is the dump, and the one before it the hit of the first step, and so on
abbrev pub found_words : Report → ℕ → List ℕ
found_words r i =
    if i + 1 == length r.states then codes " state dump" else moment_words (step_moment (slice_get r.steps (length r.states - 2 - i)))

-- where a state of an execution stands
abbrev pub place_words : Report → ℕ → List ℕ
place_words r i = codes " state " ++ place_word r i

-- where a state of the trace comes from
abbrev pub origin_words : Report → ℕ → List ℕ
origin_words r i = if is_execution r then place_words r i else found_words r i

-- the state, or the input, before the one with this number, where what has not changed since is left out
abbrev pub row_before : List (List Bool) → Bool → ℕ → Option (List Bool)
row_before rows all i = if all || (i == 0) then None else slice_get rows (i - 1)

-- whether some flip-flops of a state are not known, which may be so in the last one
abbrev pub is_partial : Report → ℕ → Bool
is_partial r i = not (length r.free == 0) && (length r.states - i == 1)

-- the flip-flops that are not known in a state
abbrev pub free_at : Report → ℕ → Option (List Bool)
free_at r i = if is_partial r i then Some r.free else None

-- the signals of the trace: those of its states and those of its inputs
pub record Signals : Type 0 where
  pub flops : List Signal
  pub inputs : List Signal

-- the flip-flops that changed, or all of them where some are not known
abbrev pub flops_at : Report → List Signal → Bool → ℕ → Option (List Bool) → List ℕ
flops_at r flops all i None = []
flops_at r flops all i (Some state) =
    if is_partial r i
    then signals_lines (codes " flop ") i (Some r.free) None state flops
    else signals_lines (codes " flop ") i None (row_before r.states all i) state flops

abbrev pub inputs_at : Report → List Signal → Bool → ℕ → Option (List Bool) → List ℕ
inputs_at r inputs all i None = []
inputs_at r inputs all i (Some input) = signals_lines (codes " input ") i None (row_before r.inputs all i) input inputs

-- a cycle of the trace: where its state comes from, the flip-flops that changed, and the data inputs that changed in the input that leads
-- on from it
abbrev pub cycle_lines : Report → Signals → Bool → ℕ → List ℕ
cycle_lines r signals all i =
    line (decimal i ++ origin_words r i)
    ++ (flops_at r signals.flops all i (slice_get r.states i) ++ inputs_at r signals.inputs all i (slice_get r.inputs i))

-- the cycles of the whole trace, and of these the ones in the window
abbrev pub trace_lines : Report → Signals → Bool → Window → List ℕ
trace_lines r signals all w = flat_map (shown_piece w (length r.states) (cycle_lines r signals all)) (range_with_len 0 (length r.states))

-- the signals of a netlist's flip-flops and of its data inputs; where names are given, these alone
pub record AreTraced (raw : Parts) (only : List (List ℕ)) (signals : Signals) : Type 0 where
  pub flops : AreSignals only (flop_keys raw) signals.flops
  pub inputs : AreSignals only (input_keys raw) signals.inputs

-- the text tells each cycle in the window of the report's trace, with the names of the netlist; where names are given, these alone
pub record TellsTrace (raw : Parts) (r : Report) (all : Bool) (w : Window) (only : List (List ℕ)) (text : List ℕ) : Type 0 where
  pub signals : Signals
  pub are : AreTraced raw only signals
  pub says : text ≡ trace_lines r signals all w
