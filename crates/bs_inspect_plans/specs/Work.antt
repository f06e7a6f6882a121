-- What a request is ready for, and the files through which it comes to that.
use Rattle.std.specs.Prelude.{ℕ, Bool, List, Option, [], ◌∷◌}
use Rattle.bs_net.specs.Parts.{Parts}
use Rattle.bs_report.specs.declared.report.Report.{Report}
use Rattle.bs_inspect_words.specs.Request.{Request, Help, Version, Flops, Inputs, Stats, Keys, Seen, Trace, TraceTable, Steps, StepsTable, Lists, Wave, Gtkw, Stimulus, Check, Dump, Signature, Unscan, Bench, Cnf, Lrat, ReachCnf, ReachLrat, Page, Novel, Near, Why}
use Rattle.bs_outside.specs.Plan.{Plan, end, ◌>>=◌}
use Rattle.bs_top_files.specs.Entry.{netlist_of, report_of}
use Rattle.bs_top_files.specs.Causes.{Case}
use Rattle.bs_evidence.specs.declared.evidence.Format.{Format}
use Rattle.bs_evidence.specs.declared.evidence.Format.TheVariants.{Clauses, Proof}
use Rattle.bs_reach_answer.specs.Searched.{AnswerFiles, answer_files_of}
use Rattle.bs_inspect_files.specs.Taken.{BenchFiles, OneRun, TraceFiles, RunFiles, ReportFiles, bench_files_of, picked_of, charted_of, one_run_of, run_files_of, report_files_of}
use Rattle.bs_inspect_files.specs.Paged.{page_files_of}
use Rattle.bs_inspect_files.specs.Checked.{Checked, checked_of}
use Rattle.bs_inspect_plans.specs.Taken.{NearFiles, near_files_of}
use Rattle.bs_inspect_values.specs.Dumped.{Dumped, dumped_of}
use Rattle.bs_inspect_values.specs.Simulated.{Simulated, simulated_of}
use Rattle.bs_inspect_files.specs.FlopFiles.{Scanned, named_of, scanned_of}
use Rattle.bs_inspect_page.specs.Page.{PageOptions}
use Rattle.bs_inspect_seen.specs.Taken.{Named as NamedValues, named_of as named_values_of}
use Rattle.bs_inspect_report.specs.declared.window.Window.{Window}
use Rattle.bs_inspect_why.specs.Question.{Question}
use Rattle.bs_inspect_plans.specs.Asked.{check_files, clocked_of, dump_files, page_options, question_of, window_of}

-- how words stand, the version, the flip-flops, data inputs or sizes of a netlist, the steps of a report, its trace with the
-- names of a netlist, simulated runs (by a clock with this name), a dump, the waveform of a trace from a cycle on, or a signature of so
-- many items is to be written; a trace or steps as a table, the lists of a report with the names of a netlist, the keys of the flip-flops that names stand for, what names with values show of a state, the state that a
-- pattern of a scan chain is, or the evidence for the list of a step or for all lists, or for a length of an answer or for all that it
-- refutes; or a report as a page, or in so many lines the values that a run alone has, or what forces the bits of a name in a trace; or
-- recorded runs beside a simulation; what is near to a dump's state; a trace as a test bench of the module with a name; or what a
-- viewer is to show of the waveform with a name
pub data Work : Type 0 where
  to_help : Work
  to_version : Work
  to_flops : Parts → Work
  to_inputs : Parts → Work
  to_stats : Parts → Work
  to_steps : Report → Work
  to_trace : Bool → Window → List (List ℕ) → TraceFiles → Work
  to_runs : List ℕ → Simulated → Work
  to_dump : Dumped → Work
  to_wave : (from : ℕ) → Bool → List (List ℕ) → TraceFiles → Work
  to_save : (wave : List ℕ) → (from : ℕ) → Bool → List (List ℕ) → TraceFiles → Work
  to_signature : ℕ → RunFiles → Work
  to_table : Window → List (List ℕ) → TraceFiles → Work
  to_steps_table : Report → Work
  to_lists : List (List ℕ) → TraceFiles → Work
  to_keys : List (List ℕ) → Parts → Work
  to_seen : NamedValues → Work
  to_state : Scanned → Work
  to_evidence : Format → Option ℕ → ReportFiles → Work
  to_lengths : Format → Option ℕ → AnswerFiles → Work
  to_page : PageOptions → TraceFiles → Work
  to_novel : (most : ℕ) → OneRun → Work
  to_why : Question → TraceFiles → Work
  to_check : Checked → Work
  to_near : NearFiles → Work
  to_bench : (top : List ℕ) → BenchFiles → Work

-- the plan of a request
abbrev pub plan_of : Request → Plan Case Work
plan_of Help = end to_help
plan_of Version = end to_version
plan_of (Flops netlist) = do
  raw ← netlist_of netlist
  end (to_flops raw)
plan_of (Inputs netlist) = do
  raw ← netlist_of netlist
  end (to_inputs raw)
plan_of (Stats netlist) = do
  raw ← netlist_of netlist
  end (to_stats raw)
plan_of (Steps report) = do
  content ← report_of report
  end (to_steps content)
plan_of (Trace t) = do
  trace_files ← picked_of t.netlist t.report t.only
  end (to_trace t.all (window_of t.window) t.only trace_files)
plan_of (Stimulus t) = do
  simulated ← simulated_of t.netlist t.names (clocked_of t) t.vcds
  end (to_runs t.clock simulated)
plan_of (Dump t) = do
  dumped ← dumped_of (dump_files t)
  end (to_dump dumped)
plan_of (Check t) = do
  checked ← checked_of (check_files t) t.vcds
  end (to_check checked)
plan_of (Wave t) = do
  trace_files ← charted_of t.netlist t.report t.only
  end (to_wave t.from t.all t.only trace_files)
plan_of (Gtkw t) = do
  trace_files ← charted_of t.netlist t.report t.only
  end (to_save t.wave t.from t.all t.only trace_files)
plan_of (Signature t) = do
  run_files ← run_files_of t.netlist t.runs
  end (to_signature t.items run_files)
plan_of (TraceTable t) = do
  trace_files ← picked_of t.netlist t.report t.only
  end (to_table (window_of t.window) t.only trace_files)
plan_of (StepsTable report) = do
  content ← report_of report
  end (to_steps_table content)
plan_of (Lists t) = do
  trace_files ← picked_of t.netlist t.report t.only
  end (to_lists t.only trace_files)
plan_of (Keys t) = do
  raw ← named_of t.netlist t.names
  end (to_keys t.names raw)
plan_of (Seen t) = do
  named ← named_values_of t.netlist t.values
  end (to_seen named)
plan_of (Unscan t) = do
  scanned ← scanned_of t.netlist t.order t.pattern
  end (to_state scanned)
plan_of (Bench t) = do
  bench_files ← bench_files_of t.netlist t.runs t.report
  end (to_bench t.top bench_files)
plan_of (Cnf t) = do
  report_files ← report_files_of t.netlist t.signature t.report
  end (to_evidence Clauses t.step report_files)
plan_of (Lrat t) = do
  report_files ← report_files_of t.netlist t.signature t.report
  end (to_evidence Proof t.step report_files)
plan_of (ReachCnf t) = do
  answer_files ← answer_files_of t.netlist t.state t.answer
  end (to_lengths Clauses t.length answer_files)
plan_of (ReachLrat t) = do
  answer_files ← answer_files_of t.netlist t.state t.answer
  end (to_lengths Proof t.length answer_files)
plan_of (Page t) = do
  page_files ← page_files_of t.netlist t.signature t.report t.only
  end (to_page (page_options t page_files.choice) page_files.trace_files)
plan_of (Novel t) = do
  one_run ← one_run_of t.netlist t.runs t.run
  end (to_novel t.most one_run)
plan_of (Near t) = do
  near_files ← near_files_of t.netlist t.runs t.dump
  end (to_near near_files)
plan_of (Why t) = do
  trace_files ← charted_of t.netlist t.report (t.name ∷ [])
  end (to_why (question_of t) trace_files)
