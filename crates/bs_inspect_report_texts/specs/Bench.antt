-- What a test bench of a report's trace is, and why there is none.
use Rattle.std.specs.Prelude.{◌≡◌, ℕ, Bool, List, [], length, slice_index_or, Option}
use Rattle.bs_net.specs.Netlist.{circuit_of}
use Rattle.bs_net.specs.Parts.{Parts, key_at}
use Rattle.bs_net_names.specs.Keys.{KeyParts, key_parts}
use Rattle.bs_inspect_view.specs.Signals.{AreSignals, Signal}
use Rattle.bs_scan.specs.Moments.{Run, state_at}
use Rattle.bs_report.specs.declared.report.Report.{Report}
use Rattle.bs_inspect_report.specs.Keys.{input_keys}
use Rattle.bs_inspect_report_texts.specs.declared.fault.Bench.{Bench}
use Rattle.bs_inspect_report_texts.specs.declared.fault.Bench.TheVariants.{Refused, Text}
use Rattle.bs_inspect_report_texts.specs.declared.fault.BenchFault.TheVariants.{Moment, State}
use Rattle.bs_inspect_report_texts.specs.Driven.{GoesOn, IsAstray, IsThere, begin_of, cycles_before, driven}
use Rattle.bs_inspect_report_texts.specs.Text.{bench_lines}

-- what the clock's key says
abbrev pub clock_parts : Parts → KeyParts
clock_parts raw = key_parts (key_at raw (circuit_of raw).clock.0)

-- the text is that of a bench which drives these inputs, each bit at the port of its name
pub record Drives (raw : Parts) (top : List ℕ) (inputs : Run) (text : List ℕ) : Type 0 where
  pub signals : List Signal
  pub are : AreSignals [] (input_keys raw) signals
  pub says : text ≡ bench_lines top (clock_parts raw) signals inputs

-- The bench drives the inputs of the run that was hit up to the trace's first state, and then the trace's. Under these the netlist goes
-- from reset through the states of the trace, and ends in its last one.
pub record IsBench (raw : Parts) (runs : List Run) (r : Report) (top text : List ℕ) : Type 0 where
  pub drives : Drives raw top (driven runs r) text
  pub through : GoesOn (circuit_of raw) (driven runs r) (cycles_before (begin_of r)) r.states
  pub ends : state_at (circuit_of raw) (driven runs r) (length (driven runs r)) ≡ slice_index_or r.states (length r.inputs) []

-- the first state of the trace that is not the netlist's at its cycle
pub record StraysAt (raw : Parts) (runs : List Run) (r : Report) (i : ℕ) : Type 0 where
  pub begins : IsThere runs (begin_of r)
  pub astray : IsAstray (circuit_of raw) (driven runs r) (cycles_before (begin_of r)) r.states i

-- the bench; or none, where the runs have no such moment, or the netlist does not go through the trace
abbrev pub BenchAnswers : Parts → List Run → Report → List ℕ → Bench → Type 0
BenchAnswers raw runs r top (Text text) = IsBench raw runs r top text.items
BenchAnswers raw runs r top (Refused Moment) = IsThere runs (begin_of r) → ⊥
BenchAnswers raw runs r top (Refused (State i)) = StraysAt raw runs r i
