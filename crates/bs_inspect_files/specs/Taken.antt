-- The files of a request, one after the other, and what they make ready.
use Rattle.std.specs.Prelude.{ℕ, Bool, true, false, List}
use Rattle.bs_net.specs.Parts.{Parts}
use Rattle.bs_report.specs.declared.report.Report.{Report}
use Rattle.bs_scan.specs.Moments.{Moment}
use Rattle.bs_stim.specs.Runs.{Stimulus as Runs}
use Rattle.bs_outside.specs.declared.file.File.TheVariants as files
use Rattle.bs_outside.specs.Plan.{Plan, end, ◌>>=◌, read_as}
use Rattle.bs_scan.specs.Choice.{Chosen}
use Rattle.bs_top_files.specs.Entry.{netlist_of, report_of, signature_of, stimulus_of}
use Rattle.bs_reach_answer.specs.Entry.{trace_of}
use Rattle.bs_top_files.specs.Readings.{moment_in, size_in}
use Rattle.bs_top_files.specs.Causes.{Case}
use Rattle.bs_inspect_files.specs.Readings.{called_in}
use Rattle.bs_inspect_files.specs.Fits.{fit_in, known_in}
use Rattle.bs_inspect_files.specs.declared.ready.BenchFiles.{BenchFiles as CodeBenchFiles}
use Rattle.bs_inspect_files.specs.declared.ready.OneRun.{OneRun as CodeOneRun}
use Rattle.bs_inspect_files.specs.declared.ready.TraceFiles.{TraceFiles as CodeTraceFiles}
use Rattle.bs_inspect_files.specs.declared.ready.RunFiles.{RunFiles as CodeRunFiles}
use Rattle.bs_inspect_files.specs.declared.ready.ReportFiles.{ReportFiles as CodeReportFiles}

-- a netlist's parts, and a report whose trace fits them, or the execution of an answer as one
pub record TraceFiles : Type 0 where
  pub raw : Parts
  pub report : Report

-- two files, and last whether the trace of the report, which may be known in part or not, fits the netlist
abbrev pub trace_files_of : (partial : Bool) → (netlist report : List ℕ) → Plan Case TraceFiles
trace_files_of partial netlist report = do
  raw ← netlist_of netlist
  content ← trace_of report
  fits ← read_as files.Report (fit_in partial report raw content)
  end record { raw = raw; report = content }

abbrev pub trace_files_in : CodeTraceFiles → TraceFiles
trace_files_in t = record { raw = t.net.raw; report = t.report }

-- the same of a trace that may be known in part, and last whether the netlist has these names
abbrev pub picked_of : (netlist report : List ℕ) → List (List ℕ) → Plan Case TraceFiles
picked_of netlist report only = do
  trace_files ← trace_files_of true netlist report
  known ← read_as files.Name (known_in trace_files.raw only)
  end trace_files

-- the same of one that is known, then whether a waveform of the trace is not too large, and last whether nets have these names
abbrev pub charted_of : (netlist report : List ℕ) → List (List ℕ) → Plan Case TraceFiles
charted_of netlist report only = do
  trace_files ← trace_files_of false netlist report
  small ← read_as files.Report (size_in report trace_files.raw trace_files.report)
  known ← read_as files.Name (called_in trace_files.raw only)
  end trace_files

-- a netlist's parts, and recorded runs
pub record RunFiles : Type 0 where
  pub raw : Parts
  pub runs : Runs

-- two files
abbrev pub run_files_of : (netlist stimulus : List ℕ) → Plan Case RunFiles
run_files_of netlist stimulus = do
  raw ← netlist_of netlist
  runs ← stimulus_of raw stimulus
  end record { raw = raw; runs = runs }

abbrev pub run_files_in : CodeRunFiles → RunFiles
run_files_in t = record { raw = t.net.raw; runs = t.runs }

-- a netlist's parts, recorded runs, and a report whose trace fits the parts, or the execution of an answer as one
pub record BenchFiles : Type 0 where
  pub run_files : RunFiles
  pub report : Report

-- three files, and last whether the trace of the report is known and fits the netlist
abbrev pub bench_files_of : (netlist stimulus report : List ℕ) → Plan Case BenchFiles
bench_files_of netlist stimulus report = do
  run_files ← run_files_of netlist stimulus
  content ← trace_of report
  fits ← read_as files.Report (fit_in false report run_files.raw content)
  end record { run_files = run_files; report = content }

abbrev pub bench_files_in : CodeBenchFiles → BenchFiles
bench_files_in t = record { run_files = run_files_in t.run_files; report = t.report }

-- a netlist's parts, what its signature is taken of, and a report
pub record ReportFiles : Type 0 where
  pub raw : Parts
  pub choice : Chosen
  pub report : Report

-- three files
abbrev pub report_files_of : (netlist signature report : List ℕ) → Plan Case ReportFiles
report_files_of netlist signature report = do
  raw ← netlist_of netlist
  choice ← signature_of raw signature
  content ← report_of report
  end record { raw = raw; choice = choice; report = content }

abbrev pub report_files_in : CodeReportFiles → ReportFiles
report_files_in t = record { raw = t.net.raw; choice = t.choice; report = t.report }

-- the same, and the beginning of the run with a number
pub record OneRun : Type 0 where
  pub run_files : RunFiles
  pub moment : Moment

-- the same files, and last whether there is such a run
abbrev pub one_run_of : (netlist stimulus : List ℕ) → ℕ → Plan Case OneRun
one_run_of netlist stimulus run = do
  run_files ← run_files_of netlist stimulus
  moment ← read_as files.Dump (moment_in run_files.runs run 0)
  end record { run_files = run_files; moment = moment }

abbrev pub one_run_in : CodeOneRun → OneRun
one_run_in t = record { run_files = run_files_in t.run_files; moment = t.moment }

-- ---- what is left of a walk once its first files are read

-- behind the netlist
abbrev pub report_step : (partial : Bool) → Parts → List ℕ → Plan Case TraceFiles
report_step partial raw report = do
  content ← trace_of report
  fits ← read_as files.Report (fit_in partial report raw content)
  end record { raw = raw; report = content }

abbrev pub runs_step : Parts → List ℕ → Plan Case RunFiles
runs_step raw stimulus = do
  runs ← stimulus_of raw stimulus
  end record { raw = raw; runs = runs }

abbrev pub choice_step : Parts → (signature report : List ℕ) → Plan Case ReportFiles
choice_step raw signature report = do
  choice ← signature_of raw signature
  content ← report_of report
  end record { raw = raw; choice = choice; report = content }

-- behind the signature
abbrev pub report_files_step : Parts → Chosen → List ℕ → Plan Case ReportFiles
report_files_step raw choice report = do
  content ← report_of report
  end record { raw = raw; choice = choice; report = content }

-- behind the report
abbrev pub fit_step : (partial : Bool) → List ℕ → Parts → Report → Plan Case TraceFiles
fit_step partial path raw content = do
  fits ← read_as files.Report (fit_in partial path raw content)
  end record { raw = raw; report = content }

-- behind recorded runs
abbrev pub drive_step : RunFiles → List ℕ → Plan Case BenchFiles
drive_step run_files report = do
  content ← trace_of report
  fits ← read_as files.Report (fit_in false report run_files.raw content)
  end record { run_files = run_files; report = content }

-- behind these and the report
abbrev pub driven_step : List ℕ → RunFiles → Report → Plan Case BenchFiles
driven_step path run_files content = do
  fits ← read_as files.Report (fit_in false path run_files.raw content)
  end record { run_files = run_files; report = content }

-- behind the trace that fits
abbrev pub chart_step : List ℕ → List (List ℕ) → TraceFiles → Plan Case TraceFiles
chart_step path only trace_files = do
  small ← read_as files.Report (size_in path trace_files.raw trace_files.report)
  known ← read_as files.Name (called_in trace_files.raw only)
  end trace_files

-- behind that
abbrev pub drawn_step : List (List ℕ) → TraceFiles → Plan Case TraceFiles
drawn_step only trace_files = do
  known ← read_as files.Name (called_in trace_files.raw only)
  end trace_files
