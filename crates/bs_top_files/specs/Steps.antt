-- What is left of a walk once its first files are read.
use Rattle.std.specs.Prelude.{ℕ, List}
use Rattle.bs_net.specs.Parts.{Parts}
use Rattle.bs_scan.specs.Choice.{Chosen}
use Rattle.bs_outside.specs.Plan.{Plan, end, ◌>>=◌}
use Rattle.bs_top_files.specs.Entry.{FileNames, Setup, CrashFiles, AuditFiles, signature_of, stimulus_of, dump_of, report_of}
use Rattle.bs_top_files.specs.Causes.{Case}

-- behind the netlist
abbrev pub choice_step : FileNames → Parts → Plan Case Setup
choice_step names raw = do
  choice ← signature_of raw names.signature
  runs ← stimulus_of raw names.stimulus
  end record { raw = raw; choice = choice; runs = runs }

-- behind the signature
abbrev pub runs_step : FileNames → Parts → Chosen → Plan Case Setup
runs_step names raw choice = do
  runs ← stimulus_of raw names.stimulus
  end record { raw = raw; choice = choice; runs = runs }

-- behind the three files
abbrev pub crash_step : Setup → List ℕ → Plan Case CrashFiles
crash_step setup dump = do
  dumped ← dump_of setup dump
  end record { setup = setup; dump = dumped }

-- behind the dump
abbrev pub claim_step : CrashFiles → List ℕ → Plan Case AuditFiles
claim_step crash_files report = do
  audit_files ← report_of report
  end record { crash_files = crash_files; report = audit_files }
