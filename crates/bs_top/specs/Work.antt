-- What a job is ready for, and the files through which it comes to that.
use Rattle.std.specs.Prelude.{ℕ}
use Rattle.bs_report.specs.declared.report.Budgets.{Budgets}
use Rattle.bs_top_words.specs.Job.{RunJob, AuditJob, DumpJob, Job, Run, Audit, Dump, Demo, Wave, Reach}
use Rattle.bs_outside.specs.Plan.{Plan, end, ◌>>=◌}
use Rattle.bs_top_files.specs.Entry.{FileNames, MomentFiles, moment_files_of, CrashFiles, crash_files_of, AuditFiles, audit_files_of, drawn_of}
use Rattle.bs_top_files.specs.Causes.{Case}
use Rattle.bs_top_reach.specs.Target.{Target, target_of}
use Rattle.bs_top.specs.Demo.{demo_of}

-- the backtrace of a dump within budgets, what an audit finds of a report, the dump of a moment, the line of a generated
-- job's backtrace, the waveform of a report's trace, or the answer of a search for a state within a budget, is to be written
pub data Work : Type 0 where
  to_run : Budgets → CrashFiles → Work
  to_audit : AuditFiles → Work
  to_dump : MomentFiles → Work
  to_demo : ℕ → MomentFiles → Work
  to_wave : AuditFiles → Work
  to_reach : (conflicts : ℕ) → Target → Work

abbrev pub run_names : RunJob → FileNames
run_names job = record { netlist = job.netlist; signature = job.signature; stimulus = job.stimulus }

abbrev pub budgets_of : RunJob → Budgets
budgets_of job = record { steps = job.steps; candidates = job.candidates; conflicts = job.conflicts }

abbrev pub audit_names : AuditJob → FileNames
audit_names job = record { netlist = job.netlist; signature = job.signature; stimulus = job.stimulus }

abbrev pub dump_names : DumpJob → FileNames
dump_names job = record { netlist = job.netlist; signature = job.signature; stimulus = job.stimulus }

-- the plan of a job
abbrev pub plan_of : Job → Plan Case Work
plan_of (Run job) = do
  crash_files ← crash_files_of (run_names job) job.dump
  end (to_run (budgets_of job) crash_files)
plan_of (Audit job) = do
  audit_files ← audit_files_of (audit_names job) job.dump job.report
  end (to_audit audit_files)
plan_of (Dump job) = do
  moment_files ← moment_files_of (dump_names job) job.run job.cycle
  end (to_dump moment_files)
plan_of (Demo number) = do
  moment_files ← demo_of number
  end (to_demo number moment_files)
plan_of (Wave job) = do
  audit_files ← drawn_of (audit_names job) job.dump job.report
  end (to_wave audit_files)
plan_of (Reach job) = do
  target ← target_of job.netlist job.state job.cycles
  end (to_reach job.conflicts target)
