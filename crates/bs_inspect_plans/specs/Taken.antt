-- The files of a state that is looked for in recorded runs, one after the other, and what they make ready.
use Rattle.std.specs.Prelude.{ℕ, List, length}
use Rattle.bs_net.specs.Netlist.{circuit_of}
use Rattle.bs_net.specs.Parts.{Parts}
use Rattle.bs_outside.specs.declared.file.File.TheVariants as files
use Rattle.bs_outside.specs.Plan.{Plan, end, ◌>>=◌, fetched, read_as}
use Rattle.bs_scan.specs.declared.seen.Seen.{Seen}
use Rattle.bs_top_files.specs.Causes.{Case}
use Rattle.bs_inspect_files.specs.Taken.{RunFiles, run_files_in, run_files_of}
use Rattle.bs_inspect_plans.specs.Readings.{state_read}
use Rattle.bs_inspect_plans.specs.declared.ready.NearFiles.{NearFiles as CodeNearFiles}

-- a netlist's parts and recorded runs, and what is seen of a state of the netlist
pub record NearFiles : Type 0 where
  pub run_files : RunFiles
  pub seen : Seen

abbrev pub near_files_in : CodeNearFiles → NearFiles
near_files_in t = record { run_files = run_files_in t.run_files; seen = t.seen }

-- how many bits a state has
abbrev pub width_of : Parts → ℕ
width_of raw = length (circuit_of raw).flops

-- what is seen of the state in the dump of a file
abbrev pub state_of : Parts → List ℕ → Plan Case Seen
state_of raw name = do
  text ← fetched files.Dump name
  read_as files.Dump (state_read (width_of raw) name text)

-- three files
abbrev pub near_files_of : (netlist stimulus dump : List ℕ) → Plan Case NearFiles
near_files_of netlist stimulus dump = do
  run_files ← run_files_of netlist stimulus
  seen ← state_of run_files.raw dump
  end record { run_files = run_files; seen = seen }

-- ---- what is left of a walk behind the runs

abbrev pub near_step : RunFiles → List ℕ → Plan Case NearFiles
near_step run_files dump = do
  seen ← state_of run_files.raw dump
  end record { run_files = run_files; seen = seen }
