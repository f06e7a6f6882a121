-- Recorded runs beside their VCDs, file by file.
use Rattle.std.specs.Prelude.{ℕ, ◌+◌, List, [], ◌∷◌, ◌++◌, length, Option, Some, None}
use Rattle.std.specs.Option.{option_map}
use Rattle.bs_net.specs.Parts.{Parts}
use Rattle.bs_stim.specs.Runs.{Stimulus}
use Rattle.bs_inspect_notes.specs.declared.name.Subject.TheVariants.{Flops}
use Rattle.bs_inspect_report.specs.Keys.{flop_keys}
use Rattle.bs_inspect_check.specs.declared.comparison.Comparison.{Comparison}
use Rattle.bs_outside.specs.declared.file.File.TheVariants as files
use Rattle.bs_outside.specs.Plan.{Plan, ◌>>=◌, end, fetched, read_as}
use Rattle.bs_top_files.specs.Causes.{Case}
use Rattle.bs_inspect_files.specs.Taken.{run_files_of, RunFiles}
use Rattle.bs_inspect_values.specs.Dumped.{clock_or}
use Rattle.bs_inspect_values.specs.Simulated.{names_read}
use Rattle.bs_inspect_files.specs.declared.checking.Checked.{Checked as CodeChecked}
use Rattle.bs_inspect_files.specs.declared.checking.CheckFiles.{CheckFiles as CodeCheckFiles}
use Rattle.bs_inspect_files.specs.declared.comparing.Beside.{Beside as CodeBeside}
use Rattle.bs_inspect_files.specs.VcdReadings.{compared_read, count_in}

-- a netlist's parts and recorded runs, the clock of the VCDs, and a scope, where one is asked for
pub record Beside : Type 0 where
  pub raw : Parts
  pub runs : Stimulus
  pub clock : List ℕ
  pub scope : Option (List ℕ)

abbrev pub beside_in : CodeBeside → Beside
beside_in t = record { raw = t.net.now.raw; runs = t.runs.now; clock = t.clock.now; scope = option_map (λ s. s.now) t.scope }

-- ---- the VCDs

-- the run with a number beside its VCD
abbrev pub one_of : (keys names : List (List ℕ)) → Beside → ℕ → List ℕ → Plan Case Comparison
one_of keys names t number vcd = do
  text ← fetched files.Vcd vcd
  read_as files.Vcd (compared_read t.raw t.runs number vcd keys names t.scope t.clock text)

-- the next run, behind others
abbrev pub next_of : (keys names : List (List ℕ)) → Beside → List Comparison → List ℕ → Plan Case (List Comparison)
next_of keys names t before vcd = one_of keys names t (length before + 1) vcd >>= λ m. end (before ++ m ∷ [])

-- the next runs, behind others
unfoldable pub all_behind : (keys names : List (List ℕ)) → Beside → List Comparison → List (List ℕ) → Plan Case (List Comparison)
all_behind keys names t before [] = end before
all_behind keys names t before (vcd ∷ vcds) = next_of keys names t before vcd >>= λ more. all_behind keys names t more vcds

-- all runs, from the first on
abbrev pub all_of : (keys names : List (List ℕ)) → Beside → List (List ℕ) → Plan Case (List Comparison)
all_of keys names t vcds = all_behind keys names t [] vcds >>= λ comparisons. end comparisons

-- ---- the names

-- once the file of names is fetched
abbrev pub names_step : List ℕ → List (List ℕ) → List ℕ → Beside → List (List ℕ) → Plan Case (List Comparison)
names_step path keys text t vcds = read_as files.Map (names_read Flops path keys text) >>= λ names. all_of keys names t vcds

-- a file of names, where there is one, and the VCDs
abbrev pub named_of : List (List ℕ) → Option (List ℕ) → Beside → List (List ℕ) → Plan Case (List Comparison)
named_of keys None t vcds = all_of keys keys t vcds
named_of keys (Some file) t vcds = fetched files.Map file >>= λ text. names_step file keys text t vcds

-- ---- the whole

-- the files, the clock where one is asked for, and the scope
pub record CheckFiles : Type 0 where
  pub netlist : List ℕ
  pub stimulus : List ℕ
  pub clock : Option (List ℕ)
  pub scope : Option (List ℕ)
  pub names : Option (List ℕ)

abbrev pub files_in : CodeCheckFiles → CheckFiles
files_in t = record {
  netlist = t.netlist.now;
  stimulus = t.stimulus.now;
  clock = option_map (λ s. s.now) t.clock;
  scope = option_map (λ s. s.now) t.scope;
  names = option_map (λ s. s.now) t.names;
}

abbrev pub beside_of : CheckFiles → RunFiles → Beside
beside_of f r = record { raw = r.raw; runs = r.runs; clock = clock_or r.raw f.clock; scope = f.scope }

-- a netlist's parts, and the comparison of each run
pub record Checked : Type 0 where
  pub raw : Parts
  pub comparisons : List Comparison

abbrev pub checked_in : CodeChecked → Checked
checked_in t = record { raw = t.run_files.net.raw; comparisons = t.comparisons.items }

-- once there are as many VCDs as runs: the file of names where there is one, and the VCDs
abbrev pub all_step : CheckFiles → RunFiles → List (List ℕ) → Plan Case Checked
all_step f r vcds =
    named_of (flop_keys r.raw) f.names (beside_of f r) vcds >>= λ comparisons. end record { raw = r.raw; comparisons = comparisons }

-- behind the netlist and the stimulus
abbrev pub checked_step : CheckFiles → RunFiles → List (List ℕ) → Plan Case Checked
checked_step f r vcds = read_as files.Vcd (count_in r.runs f.stimulus vcds) >>= λ fits. all_step f r vcds

abbrev pub checked_of : CheckFiles → List (List ℕ) → Plan Case Checked
checked_of f vcds = run_files_of f.netlist f.stimulus >>= λ r. checked_step f r vcds
