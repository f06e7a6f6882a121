-- The files of a job, one after the other, and what they make ready.
use Rattle.std.specs.Prelude.{ℕ, List, length}
use Rattle.bs_net.specs.Netlist.{circuit_of}
use Rattle.bs_net.specs.Parts.{Parts}
use Rattle.bs_stim.specs.Runs.{Stimulus}
use Rattle.bs_scan.specs.Choice.{Chosen}
use Rattle.bs_scan.specs.Crash.{Recording, recording_of}
use Rattle.bs_scan.specs.Moments.{Moment}
use Rattle.bs_scan.specs.declared.dump.Dump.{Dump}
use Rattle.bs_report.specs.declared.report.Report.{Report}
use Rattle.bs_outside.specs.declared.file.File.TheVariants as files
use Rattle.bs_outside.specs.Plan.{Plan, end, ◌>>=◌, fetched, read_as}
use Rattle.bs_top_files.specs.Causes.{Case}
use Rattle.bs_top_files.specs.Readings.{netlist_in, signature_in, stimulus_in, dump_in, moment_in, report_read, size_in}

-- the names of the first three files
pub record FileNames : Type 0 where
  pub netlist : List ℕ
  pub signature : List ℕ
  pub stimulus : List ℕ

-- ---- the values

-- what the first three files tell: a netlist's parts, what its signature is taken of, and the recorded runs
pub record Setup : Type 0 where
  pub raw : Parts
  pub choice : Chosen
  pub runs : Stimulus

-- the recording that they tell
abbrev pub recording_in : Setup → Recording
recording_in setup = recording_of setup.raw setup.choice setup.runs

-- the same with a moment of the runs
pub record MomentFiles : Type 0 where
  pub setup : Setup
  pub moment : Moment

-- the same with the dump of the crashed chip
pub record CrashFiles : Type 0 where
  pub setup : Setup
  pub dump : Dump

-- the same with a report
pub record AuditFiles : Type 0 where
  pub crash_files : CrashFiles
  pub report : Report

-- ---- the walks

-- the bits of an input line
abbrev pub input_width : Parts → ℕ
input_width raw = length (circuit_of raw).inputs

abbrev pub netlist_of : List ℕ → Plan Case Parts
netlist_of name = do
  text ← fetched files.Netlist name
  read_as files.Netlist (netlist_in name text)

abbrev pub signature_of : Parts → List ℕ → Plan Case Chosen
signature_of raw name = do
  text ← fetched files.Signature name
  read_as files.Signature (signature_in raw name text)

abbrev pub stimulus_of : Parts → List ℕ → Plan Case Stimulus
stimulus_of raw name = do
  text ← fetched files.Stimulus name
  read_as files.Stimulus (stimulus_in (input_width raw) name text)

abbrev pub dump_of : Setup → List ℕ → Plan Case Dump
dump_of setup name = do
  text ← fetched files.Dump name
  read_as files.Dump (dump_in setup.raw setup.choice name text)

-- the first three files of a job, by their names
abbrev pub setup_of : FileNames → Plan Case Setup
setup_of names = do
  raw ← netlist_of names.netlist
  choice ← signature_of raw names.signature
  runs ← stimulus_of raw names.stimulus
  end record { raw = raw; choice = choice; runs = runs }

-- three files, and last whether the runs have the moment
abbrev pub moment_files_of : FileNames → (run cycle : ℕ) → Plan Case MomentFiles
moment_files_of names run cycle = do
  setup ← setup_of names
  moment ← read_as files.Dump (moment_in setup.runs run cycle)
  end record { setup = setup; moment = moment }

-- four files
abbrev pub crash_files_of : FileNames → List ℕ → Plan Case CrashFiles
crash_files_of names dump = do
  setup ← setup_of names
  dumped ← dump_of setup dump
  end record { setup = setup; dump = dumped }

abbrev pub report_of : List ℕ → Plan Case Report
report_of name = do
  text ← fetched files.Report name
  read_as files.Report (report_read name text)

-- five files
abbrev pub audit_files_of : FileNames → (dump report : List ℕ) → Plan Case AuditFiles
audit_files_of names dump report = do
  crash_files ← crash_files_of names dump
  audit_files ← report_of report
  end record { crash_files = crash_files; report = audit_files }

-- five files, and last whether a waveform of the report's trace is not too large
abbrev pub drawn_of : FileNames → (dump report : List ℕ) → Plan Case AuditFiles
drawn_of names dump report = do
  audit_files ← audit_files_of names dump report
  fits ← read_as files.Report (size_in report audit_files.crash_files.setup.raw audit_files.report)
  end audit_files
