-- Runs of a stimulus out of the values of a simulator.
use Rattle.std.specs.Prelude.{ℕ, nat_lt, Bool, List, [], ◌∷◌, ◌++◌, length, map, Option, Some, None, Result, Ok, Err, if◌then◌else◌}
use Rattle.std.specs.Option.{option_map}
use Rattle.bs_net.specs.Netlist.{circuit_of}
use Rattle.bs_net.specs.Parts.{Parts, key_at}
use Rattle.bs_stim.specs.declared.limits.TheConstants.{MAX_CYCLES}
use Rattle.bs_inspect_notes.specs.declared.name.Subject.{Subject}
use Rattle.bs_inspect_notes.specs.declared.name.Subject.TheVariants.{Inputs}
use Rattle.bs_inspect_report.specs.Keys.{input_keys}
use Rattle.bs_vcd.specs.declared.clock_edges.SampledLines.{SampledLines}
use Rattle.bs_vcd.specs.Stimulus.{stimulus_in}
use Rattle.bs_outside.specs.declared.file.File.TheVariants as files
use Rattle.bs_outside.specs.Plan.{Reason, Plan, ◌>>=◌, end, fetched, read_as}
use Rattle.bs_top_files.specs.Entry.{netlist_of}
use Rattle.bs_top_files.specs.Causes.{Case, with_reason}
use Rattle.bs_inspect_values.specs.declared.ready.Simulated.{Simulated as CodeSimulated}
use Rattle.bs_inspect_values.specs.declared.ready.Sampled.{Sampled as CodeSampled}
use Rattle.bs_inspect_values.specs.declared.simulated.Clocked.{Clocked as CodeClocked}
use Rattle.bs_inspect_names.specs.Mapping.{map_in}
use Rattle.bs_inspect_values.specs.SimulatedRun.{SimulatedRun, is_data, run_in, simulated}
use Rattle.bs_inspect_values.specs.Saying.{cycles_reason, map_reason, vcd_reason}

-- the names that inputs or flip-flops with these keys have in a simulation
abbrev pub names_read : Subject → (path : List ℕ) → List (List ℕ) → (text : List ℕ) → Result (List (List ℕ)) (Reason Case)
names_read subject path keys text = with_reason (map_reason subject path text keys) (map_in keys text)

-- no more lines than a run may have cycles
abbrev pub few_lines : List ℕ → Result SampledLines (Reason Case) → Result SampledLines (Reason Case)
few_lines path (Err reason) = Err reason
few_lines path (Ok sampled) = if nat_lt MAX_CYCLES (length sampled.lines) then Err (cycles_reason path) else Ok sampled

-- the inputs just before each rising edge of a clock, where the inputs with these keys have those names
abbrev pub lines_read : (path : List ℕ) (keys names : List (List ℕ)) (scope : Option (List ℕ)) (clock text : List ℕ) →
    Result SampledLines (Reason Case)
lines_read path keys names scope clock text =
    few_lines path (with_reason (vcd_reason Inputs path text keys names scope clock) (stimulus_in text scope clock names))

-- ---- runs

-- the clock, and the scope where one is asked for
pub record Clocked : Type 0 where
  pub clock : List ℕ
  pub scope : Option (List ℕ)

abbrev pub clocked_in : CodeClocked → Clocked
clocked_in t = record { clock = t.clock.now; scope = option_map (λ s. s.now) t.scope }

abbrev pub lines_of : (keys names : List (List ℕ)) → Clocked → List ℕ → Plan Case SampledLines
lines_of keys names at vcd = do
  text ← fetched files.Vcd vcd
  read_as files.Vcd (lines_read vcd keys names at.scope at.clock text)

-- the run of a file, behind others
abbrev pub run_behind : (keys names : List (List ℕ)) → Clocked → List SimulatedRun → List ℕ → Plan Case (List SimulatedRun)
run_behind keys names at runs vcd = lines_of keys names at vcd >>= λ sampled. end (runs ++ simulated vcd sampled ∷ [])

-- a run for each of these files, behind others
unfoldable pub runs_behind : (keys names : List (List ℕ)) → Clocked → List SimulatedRun → List (List ℕ) → Plan Case (List SimulatedRun)
runs_behind keys names at runs [] = end runs
runs_behind keys names at runs (vcd ∷ vcds) = run_behind keys names at runs vcd >>= λ more. runs_behind keys names at more vcds

-- whether the clock that is asked for is a data input as well, and the runs
pub record Sampled : Type 0 where
  pub data_clock : Bool
  pub runs : List SimulatedRun

abbrev pub sampled_in : CodeSampled → Sampled
sampled_in t = record { data_clock = t.data_clock; runs = map run_in t.runs.items }

abbrev pub sampled_of : (keys names : List (List ℕ)) → Clocked → List (List ℕ) → Plan Case Sampled
sampled_of keys names at vcds = runs_behind keys names at [] vcds >>= λ runs. end record { data_clock = is_data at.clock names; runs = runs }

-- once the file of names is fetched
abbrev pub sampled_step : (path : List ℕ) → List (List ℕ) → (text : List ℕ) → Clocked → List (List ℕ) → Plan Case Sampled
sampled_step path keys text at vcds = read_as files.Map (names_read Inputs path keys text) >>= λ names. sampled_of keys names at vcds

-- a file of names, where there is one, and the values
abbrev pub run_of : List (List ℕ) → Option (List ℕ) → Clocked → List (List ℕ) → Plan Case Sampled
run_of keys None at vcds = sampled_of keys keys at vcds
run_of keys (Some file) at vcds = fetched files.Map file >>= λ text. sampled_step file keys text at vcds

-- the same with a netlist's parts
pub record Simulated : Type 0 where
  pub raw : Parts
  pub sampled : Sampled

abbrev pub simulated_in : CodeSimulated → Simulated
simulated_in t = record { raw = t.net.raw; sampled = sampled_in t.sampled }

abbrev pub run_step : Parts → Option (List ℕ) → Clocked → List (List ℕ) → Plan Case Simulated
run_step raw names at vcds = run_of (input_keys raw) names at vcds >>= λ sampled. end record { raw = raw; sampled = sampled }

-- the netlist, the file of names where there is one, and the values, file by file
abbrev pub simulated_of : (netlist : List ℕ) (names : Option (List ℕ)) → Clocked → (vcds : List (List ℕ)) → Plan Case Simulated
simulated_of netlist names at vcds = netlist_of netlist >>= λ raw. run_step raw names at vcds

-- the key of the netlist's clock
abbrev pub clock_key : Parts → List ℕ
clock_key raw = key_at raw (circuit_of raw).clock.0
