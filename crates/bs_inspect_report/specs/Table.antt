-- The trace and the steps of a report as tables for scripts (docs/FORMATS.md, "Tables"): comma-separated values (RFC 4180).
use Rattle.std.specs.Prelude.{◌≡◌, ℕ, ◌+◌, ◌-◌, ◌==◌, ◌||◌, Bool, List, [], ◌∷◌, ◌++◌, length, codes, decimal, slice_get, slice_index_or, Option, Some, None}
use Rattle.std.specs.Prelude.{if◌then◌else◌}
use Rattle.std.specs.List.{flat_map, list_any, range_with_len}
use Rattle.std.specs.Str.{bytes_eq}
use Rattle.bs_bits.specs.Lines.{line}
use Rattle.bs_inspect_view.specs.Rtl.{rtl_text}
use Rattle.bs_inspect_view.specs.Signals.{Signal}
use Rattle.bs_net.specs.Parts.{Parts}
use Rattle.bs_report.specs.declared.report.HitLine.{HitLine}
use Rattle.bs_report.specs.declared.report.Report.{Report}
use Rattle.bs_report.specs.declared.report.Step.{Step}
use Rattle.bs_inspect_report.specs.Execution.{is_execution, place_word}
use Rattle.bs_inspect_report.specs.Lemmas.{lemmas_logged}
use Rattle.bs_inspect_report.specs.Recorded.{step_moment}
use Rattle.bs_inspect_report.specs.Signal.{seen_value}
use Rattle.bs_inspect_report.specs.Steps.{differing, list_word}
use Rattle.bs_inspect_report.specs.Trace.{AreTraced, Signals, free_at}
use Rattle.bs_inspect_report.specs.Window.{shown_piece}
use Rattle.bs_inspect_report.specs.declared.window.Window.{Window}

-- ---- a field

-- a quote or a comma
abbrev pub is_special : ℕ → Bool
is_special b = (b == 34) || (b == 44)

-- a quote twice, and any other byte once
abbrev pub doubled : ℕ → List ℕ
doubled b = if b == 34 then 34 ∷ 34 ∷ [] else b ∷ []

-- a text as it is, or between quotes where it has a quote or a comma
abbrev pub field : List ℕ → List ℕ
field text = if list_any is_special text then 34 ∷ (flat_map doubled text ++ 34 ∷ []) else text

-- ---- the trace

-- the names of the first columns
abbrev pub is_column : List ℕ → Bool
is_column name =
    bytes_eq name (codes "state") || (bytes_eq name (codes "from") || (bytes_eq name (codes "run") || bytes_eq name (codes "cycle")))

-- what stands before a name: `\` where it is that of one of the first columns
abbrev pub mark : List ℕ → List ℕ
mark name = if is_column name then codes "\\" else []

-- the name of a signal, as RTL writes it
abbrev pub name_cell : Signal → List ℕ
name_cell s = codes "," ++ (mark (rtl_text s) ++ field (rtl_text s))

abbrev pub name_cells : List Signal → List ℕ
name_cells signals = flat_map name_cell signals

abbrev pub head_row : Signals → List ℕ
head_row signals = line (codes "state,from,run,cycle" ++ (name_cells signals.flops ++ name_cells signals.inputs))

-- the value of a signal, and nothing where there are no bits
abbrev pub value_cell : (free bits : Option (List Bool)) → Signal → List ℕ
value_cell free None s = codes ","
value_cell free (Some bits) s = codes "," ++ seen_value free bits s.places

abbrev pub value_cells : (free bits : Option (List Bool)) → List Signal → List ℕ
value_cells free bits signals = flat_map (value_cell free bits) signals

-- the moment at which a state was recorded
abbrev pub recorded_cells : Option (ℕ × ℕ) → List ℕ
recorded_cells None = codes ",none,,"
recorded_cells (Some moment) = codes ",hit," ++ (decimal moment.0 ++ (codes "," ++ decimal moment.1))

-- where a state of a backtrace comes from
abbrev pub found_cells : Report → ℕ → List ℕ
found_cells r i = if i + 1 == length r.states then codes ",dump,," else recorded_cells (step_moment (slice_get r.steps (length r.states - 2 - i)))

-- where a state of an execution stands
abbrev pub place_cells : Report → ℕ → List ℕ
place_cells r i = codes "," ++ (place_word r i ++ codes ",,")

-- where a state of the trace comes from, as in its text
abbrev pub origin_cells : Report → ℕ → List ℕ
origin_cells r i = if is_execution r then place_cells r i else found_cells r i

-- a state of the trace: where it comes from, all flip-flops, and the input that leads on from it
abbrev pub state_row : Report → Signals → ℕ → List ℕ
state_row r signals i =
    line (decimal i ++ (origin_cells r i
    ++ (value_cells (free_at r i) (slice_get r.states i) signals.flops ++ value_cells None (slice_get r.inputs i) signals.inputs)))

-- the rows of the states in the window
abbrev pub state_rows : Report → Signals → Window → List ℕ
state_rows r signals w = flat_map (shown_piece w (length r.states) (state_row r signals)) (range_with_len 0 (length r.states))

abbrev pub trace_rows : Report → Signals → Window → List ℕ
trace_rows r signals w = head_row signals ++ state_rows r signals w

-- the text tells each state in the window of the report's trace, with the names of the netlist; where names are given, these alone
pub record TellsTable (raw : Parts) (r : Report) (w : Window) (only : List (List ℕ)) (text : List ℕ) : Type 0 where
  pub signals : Signals
  pub are : AreTraced raw only signals
  pub says : text ≡ trace_rows r signals w

-- ---- the steps

abbrev pub moment_cells : Option HitLine → List ℕ
moment_cells None = codes ",,"
moment_cells (Some hit) = codes "," ++ (decimal hit.run ++ (codes "," ++ decimal hit.cycle))

-- how many candidates the step with a number lists, and how many flip-flops differ among them
unfoldable pub list_cells : (number cands differ : ℕ) → List ℕ
list_cells number cands differ = decimal number ++ (codes "," ++ (decimal cands ++ (codes "," ++ decimal differ)))

-- how its list ended, how many lemmas it logged, and its hit
unfoldable pub end_cells : ℕ → Step → List ℕ
end_cells lemmas step = codes "," ++ (list_word step.end ++ (codes "," ++ (decimal lemmas ++ moment_cells step.hit)))

abbrev pub step_row : ℕ → ℕ → Step → List ℕ
step_row number lemmas step = line (list_cells number (length step.cands) (differing step.cands) ++ end_cells lemmas step)

abbrev pub row_of : ℕ → List ℕ → Option Step → List ℕ
row_of i lemmas None = []
row_of i lemmas (Some step) = step_row (i + 1) (slice_index_or lemmas i 0) step

abbrev pub step_row_at : Report → List ℕ → ℕ → List ℕ
step_row_at r lemmas i = row_of i lemmas (slice_get r.steps i)

-- a row for each step, numbered from 1
abbrev pub step_rows : Report → List ℕ → List ℕ
step_rows r lemmas =
    line (codes "step,candidates,differ,list,lemmas,run,cycle") ++ flat_map (step_row_at r lemmas) (range_with_len 0 (length r.steps))

abbrev pub steps_table : Report → List ℕ
steps_table r = step_rows r (lemmas_logged r.log)
