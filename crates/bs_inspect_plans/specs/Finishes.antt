-- The status and the text of work that is done.
use Rattle.std.specs.Prelude.{◌≡◌, ℕ, List, [], Option, length, if◌then◌else◌}
use Rattle.bs_outside.specs.declared.status.Status.{Status}
use Rattle.bs_outside.specs.declared.status.Status.TheVariants.{Done, Rejected}
use Rattle.bs_inspect_values.specs.SimulatedRun.{simulated_text}
use Rattle.bs_inspect_netlist.specs.Dumped.{dump_lines}
use Rattle.bs_inspect_check.specs.declared.comparison.Comparison.{Comparison}
use Rattle.bs_inspect_check.specs.Comparison.{all_agree}
use Rattle.bs_inspect_check.specs.Text.{TellsCheck}
use Rattle.bs_inspect_plans.specs.Asked.{drawing_of}
use Rattle.bs_inspect_view.specs.Save.{IsSaveFile}
use Rattle.bs_inspect_view.specs.View.{IsDrawing}
use Rattle.bs_inspect_signature.specs.Signature.{TellsSignature}
use Rattle.bs_inspect_near.specs.Novel.{TellsNovel}
use Rattle.bs_inspect_near.specs.Tells.{TellsNear}
use Rattle.bs_inspect_names.specs.Called.{TellsKeys}
use Rattle.bs_inspect_netlist.specs.Order.{state_line}
use Rattle.bs_inspect_netlist.specs.Lines.{TellsFlops, TellsInputs}
use Rattle.bs_inspect_netlist.specs.Sizes.{TellsSizes}
use Rattle.bs_inspect_page.specs.Page.{ShowsReport}
use Rattle.bs_inspect_report_texts.specs.Lists.{TellsLists}
use Rattle.bs_inspect_report.specs.Recorded.{recorded_moments}
use Rattle.bs_inspect_report.specs.Remarks.{remarks}
use Rattle.bs_inspect_report.specs.Steps.{steps_text}
use Rattle.bs_inspect_report.specs.Table.{TellsTable, steps_table}
use Rattle.bs_inspect_report.specs.Trace.{TellsTrace}
use Rattle.bs_inspect_report_texts.specs.Bench.{BenchAnswers}
use Rattle.bs_inspect_report_texts.specs.Faults.{bench_fault_text}
use Rattle.bs_inspect_report_texts.specs.declared.fault.Bench.{Bench}
use Rattle.bs_inspect_report_texts.specs.declared.fault.Bench.TheVariants as bench
use Rattle.bs_stim.specs.Runs.{inputs_of}
use Rattle.bs_inspect_seen.specs.State.{state_line as seen_line}
use Rattle.bs_inspect_why.specs.Denials.{denial_text}
use Rattle.bs_inspect_why.specs.Question.{Question}
use Rattle.bs_inspect_why.specs.Why.{Answers}
use Rattle.bs_inspect_why.specs.declared.denial.WhyAnswer.{WhyAnswer}
use Rattle.bs_inspect_why.specs.declared.denial.WhyAnswer.TheVariants as why
use Rattle.bs_inspect_plans.specs.Usage.{usage_text, version_text}
use Rattle.bs_inspect_plans.specs.Work.{Work, to_help, to_version, to_flops, to_inputs, to_stats, to_steps, to_trace, to_runs, to_dump, to_wave, to_save, to_signature}
use Rattle.bs_net.specs.Netlist.{circuit_of}
use Rattle.bs_evidence.specs.declared.evidence.Format.{Format}
use Rattle.bs_evidence.specs.declared.flaw.Evidence.{Evidence}
use Rattle.bs_evidence.specs.declared.flaw.Evidence.TheVariants.{Text, Flawed}
use Rattle.bs_evidence.specs.Evidence.{IsEvidence}
use Rattle.bs_evidence.specs.Words.{flaw_text}
use Rattle.bs_evidence.specs.Lengths.{IsEvidence as IsLengthEvidence}
use Rattle.bs_reach_answer.specs.Searched.{AnswerFiles}
use Rattle.bs_inspect_files.specs.Taken.{BenchFiles, ReportFiles, TraceFiles}
use Rattle.bs_inspect_plans.specs.Work.{to_table, to_steps_table, to_lists, to_keys, to_seen, to_state, to_evidence, to_lengths, to_page, to_novel, to_why, to_check, to_bench, to_near}

-- the status and the text of evidence: a flaw is answered as an audit answers a part that fails
abbrev pub evidence_status : Evidence → Status
evidence_status (Text text) = Done
evidence_status (Flawed flaw) = Rejected

abbrev pub evidence_text : Evidence → List ℕ
evidence_text (Text text) = text.items
evidence_text (Flawed flaw) = flaw_text flaw

-- the evidence for the list of a step, or for all lists where no step is asked for, or why there is none
pub record TellsEvidence (kind : Format) (step : Option ℕ) (report_files : ReportFiles) (status : Status) (text : List ℕ) : Type 0 where
  pub evidence : Evidence
  pub right : IsEvidence kind (circuit_of report_files.raw) report_files.choice report_files.report step evidence
  pub answered : status ≡ evidence_status evidence
  pub written : text ≡ evidence_text evidence

-- the evidence that the state is not reached in a length, or in all that the answer refutes where no length is asked for, or why there is
-- none
pub record TellsLengths (kind : Format) (asked : Option ℕ) (answer_files : AnswerFiles) (status : Status) (text : List ℕ) : Type 0 where
  pub evidence : Evidence
  pub right : IsLengthEvidence kind (circuit_of answer_files.target.raw) answer_files.target.state answer_files.answer asked evidence
  pub answered : status ≡ evidence_status evidence
  pub written : text ≡ evidence_text evidence

-- the status and the text of an answer to `why`: where there is no account, it is answered as an audit answers a part that fails
abbrev pub why_status : WhyAnswer → Status
why_status (why.Text text) = Done
why_status (why.Denied denial) = Rejected

abbrev pub why_text : WhyAnswer → List ℕ
why_text (why.Text text) = text.items
why_text (why.Denied denial) = denial_text denial

-- what forces the bits of a name, or why it is not told
pub record TellsReasons (q : Question) (trace_files : TraceFiles) (status : Status) (text : List ℕ) : Type 0 where
  pub answer : WhyAnswer
  pub right : Answers trace_files.raw trace_files.report q answer
  pub answered : status ≡ why_status answer
  pub written : text ≡ why_text answer

-- the status and the text of an answer to `bench`: where there is none, it is answered as an audit answers a part that fails
abbrev pub bench_status : Bench → Status
bench_status (bench.Text text) = Done
bench_status (bench.Refused fault) = Rejected

abbrev pub bench_text : Bench → List ℕ
bench_text (bench.Text text) = text.items
bench_text (bench.Refused fault) = bench_fault_text fault

-- the test bench of a module, or why there is none
pub record TellsBench (top : List ℕ) (bench_files : BenchFiles) (status : Status) (text : List ℕ) : Type 0 where
  pub answer : Bench
  pub right : BenchAnswers bench_files.run_files.raw (inputs_of bench_files.run_files.runs) bench_files.report top answer
  pub answered : status ≡ bench_status answer
  pub written : text ≡ bench_text answer

-- runs that differ from their VCDs are answered as an audit answers a part that fails
abbrev pub check_status : List Comparison → Status
check_status comparisons = if all_agree comparisons then Done else Rejected

abbrev pub finishes : Work → Status → List ℕ → Type 0
finishes to_help status text = (status ≡ Done) × (text ≡ usage_text)
finishes to_version status text = (status ≡ Done) × (text ≡ version_text)
finishes (to_flops raw) status text = (status ≡ Done) × TellsFlops raw text
finishes (to_inputs raw) status text = (status ≡ Done) × TellsInputs raw text
finishes (to_stats raw) status text = (status ≡ Done) × TellsSizes raw text
finishes (to_steps report) status text = (status ≡ Done) × (text ≡ steps_text report)
finishes (to_trace all w only trace_files) status text = (status ≡ Done) × TellsTrace trace_files.raw trace_files.report all w only text
finishes (to_runs clock simulated) status text = (status ≡ Done) × (text ≡ simulated_text simulated.sampled.runs)
finishes (to_dump dumped) status text = (status ≡ Done) × (text ≡ dump_lines dumped.choice dumped.taken.states dumped.taken.marks)
finishes (to_wave from all only trace_files) status text =
    (status ≡ Done)
    × IsDrawing trace_files.raw (drawing_of from all only (remarks trace_files.report) (recorded_moments trace_files.report)) trace_files.report.states trace_files.report.inputs text
finishes (to_save wave from all only trace_files) status text =
    (status ≡ Done) × IsSaveFile trace_files.raw (drawing_of from all only [] []) wave (length trace_files.report.states) text
finishes (to_signature items run_files) status text = (status ≡ Done) × TellsSignature run_files.raw run_files.runs items text
finishes (to_table w only trace_files) status text = (status ≡ Done) × TellsTable trace_files.raw trace_files.report w only text
finishes (to_steps_table report) status text = (status ≡ Done) × (text ≡ steps_table report)
finishes (to_lists only trace_files) status text = (status ≡ Done) × TellsLists trace_files.raw trace_files.report only text
finishes (to_keys names raw) status text = (status ≡ Done) × TellsKeys raw names text
finishes (to_seen named) status text = (status ≡ Done) × (text ≡ seen_line named.raw named.givens)
finishes (to_state scanned) status text = (status ≡ Done) × (text ≡ state_line (length scanned.raw.flops) scanned.order scanned.pattern)
finishes (to_evidence kind step report_files) status text = TellsEvidence kind step report_files status text
finishes (to_lengths kind asked answer_files) status text = TellsLengths kind asked answer_files status text
finishes (to_page asked trace_files) status text = (status ≡ Done) × ShowsReport trace_files.raw trace_files.report asked text
finishes (to_novel most one_run) status text = (status ≡ Done) × TellsNovel one_run.run_files.raw one_run.run_files.runs one_run.moment.run most text
finishes (to_why q trace_files) status text = TellsReasons q trace_files status text
finishes (to_check checked) status text = (status ≡ check_status checked.comparisons) × TellsCheck checked.raw checked.comparisons text
finishes (to_near near_files) status text =
    (status ≡ Done) × TellsNear near_files.run_files.raw (inputs_of near_files.run_files.runs) near_files.seen text
finishes (to_bench top bench_files) status text = TellsBench top bench_files status text
