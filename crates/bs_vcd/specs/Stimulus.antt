-- The run that the text of a VCD gives (docs/FORMATS.md, "Value changes (VCD)").
use Rattle.std.specs.Prelude.{ℕ, List, Option, Result, Ok}
use Rattle.bs_bits.specs.Reading.{◌>>=◌}
use Rattle.bs_net_names.specs.Keys.{key_parts}
use Rattle.bs_vcd_header.specs.declared.fault.VcdFault.{VcdFault}
use Rattle.bs_vcd_header.specs.declared.fault.VcdFault.TheVariants.{NoClock}
use Rattle.bs_vcd_header.specs.declared.sources.BitSource.{BitSource}
use Rattle.bs_vcd_header.specs.Header.{HeaderDeclarations, Header, HeaderState, header_of, header_from}
use Rattle.bs_vcd_header.specs.Sources.{inputs_from, or_fault, scope_of, source_in}
use Rattle.bs_vcd_header.specs.Tokens.{VcdToken, tokens_from}
use Rattle.bs_vcd.specs.declared.stimulus_run.ClockAndInputs.{ClockAndInputs as CodeClockAndInputs}
use Rattle.bs_vcd.specs.declared.clock_edges.SampledLines.{SampledLines}
use Rattle.bs_vcd.specs.Found.{found_inputs, lacking, sources_of}
use Rattle.bs_vcd.specs.History.{history_of}
use Rattle.bs_vcd.specs.Sampled.{sampled}

-- a clock, and the sources of names
pub record ClockAndInputs : Type 0 where
  pub clock : BitSource
  pub inputs : List BitSource

abbrev pub sampling_in : CodeClockAndInputs → ClockAndInputs
sampling_in s = record { clock = s.clock; inputs = s.inputs.items }

-- the clock in its scope, and these names there
abbrev pub sampling_of : HeaderDeclarations → Option (List ℕ) → List ℕ → List (List ℕ) → Result ClockAndInputs VcdFault
sampling_of d scope clock keys = do
  path ← or_fault NoClock (scope_of scope (key_parts clock) d)
  source ← or_fault NoClock (source_in d.paths path (key_parts clock) d.variables)
  inputs ← inputs_from 0 d path keys
  Ok record { clock = source; inputs = inputs }

-- the same, where some of these names may be missing
abbrev pub found_sampling : HeaderDeclarations → Option (List ℕ) → List ℕ → List (List ℕ) → Result ClockAndInputs VcdFault
found_sampling d scope clock keys = do
  path ← or_fault NoClock (scope_of scope (key_parts clock) d)
  source ← or_fault NoClock (source_in d.paths path (key_parts clock) d.variables)
  inputs ← found_inputs d path keys
  Ok record { clock = source; inputs = inputs }

-- how many of these names are missing
abbrev pub lacks_of : HeaderDeclarations → Option (List ℕ) → List ℕ → List (List ℕ) → Result ℕ VcdFault
lacks_of d scope clock keys = or_fault NoClock (scope_of scope (key_parts clock) d) >>= λ path. Ok (lacking (sources_of d path keys))

-- the lines of a clock's rising edges by what is declared and the words behind that
abbrev pub edges_of : Header → Option (List ℕ) → List ℕ → List (List ℕ) → Result SampledLines VcdFault
edges_of h scope clock keys = sampling_of h.declared scope clock keys >>= λ s. sampled s.clock s.inputs (history_of h.rest)

-- The line of each rising edge of a clock in the text of a VCD: the bits of these names in a scope just before it; with the time of the
-- first change and the last time. Or the first fault: of the declarations, of the names, or of the value changes.
abbrev pub stimulus_in : List ℕ → Option (List ℕ) → List ℕ → List (List ℕ) → Result SampledLines VcdFault
stimulus_in text scope clock keys = header_of (tokens_from 1 text) >>= λ h. edges_of h scope clock keys

-- the same, where so much is read of the declarations
abbrev pub read_from : HeaderState → List VcdToken → Option (List ℕ) → List ℕ → List (List ℕ) → Result SampledLines VcdFault
read_from b tokens scope clock keys = header_from b tokens >>= λ h. edges_of h scope clock keys
