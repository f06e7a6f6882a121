-- The status and the text of work that is done.
use Rattle.std.specs.Prelude.{◌≡◌, ℕ, List, Option, None, Ok, All}
use Rattle.bs_scan.specs.declared.seen.Seen.{Seen}
use Rattle.bs_scan.specs.DumpText.{dump_text}
use Rattle.bs_log.specs.Lean.{IsLean}
use Rattle.bs_log.specs.Refusal.{history_of}
use Rattle.bs_report.specs.declared.report.Budgets.{Budgets}
use Rattle.bs_report.specs.declared.report.Report.{Report}
use Rattle.bs_report.specs.declared.report.Stop.{Stop}
use Rattle.bs_report.specs.declared.report.Stop.TheVariants.{Reset, Length, Nohit, Empty, Candidates, Conflicts}
use Rattle.bs_scan.specs.Crash.{Crash, Recording, crash_of, dump_at}
use Rattle.bs_report.specs.Text.{report_text, HasReportText}
use Rattle.bs_report.specs.declared.part.Part.{Part}
use Rattle.bs_report.specs.Progress.{GoesBack}
use Rattle.bs_report.specs.Valid.{first_failing}
use Rattle.bs_outside.specs.declared.status.Status.{Status}
use Rattle.bs_outside.specs.declared.status.Status.TheVariants as S
use Rattle.bs_loop.specs.Bound.{HasBound}
use Rattle.bs_loop.specs.HitInput.{TakesRecorded}
use Rattle.bs_loop.specs.Searched.{WereSearched}
use Rattle.bs_top_files.specs.Entry.{recording_in}
use Rattle.bs_top_files.specs.Law.{HasModules, MeansDesign}
use Rattle.bs_top_files.specs.Readings.{netlist_in}
use Rattle.bs_top.specs.declared.budgets.TheConstants.{DEMO_STEPS, DEMO_CANDIDATES, DEMO_CONFLICTS}
use Rattle.bs_top.specs.Summary.{summary_text}
use Rattle.bs_top.specs.Rejected.{finding_status, finding_text}
use Rattle.bs_audit.specs.Finding.{basis_for}
use Rattle.bs_top.specs.Sound.{IsSoundReport}
use Rattle.bs_net.specs.Circuit.{Circuit}
use Rattle.bs_net.specs.Netlist.{circuit_of}
use Rattle.bs_net.specs.Parts.{Parts}
use Rattle.bs_reach.specs.declared.reach.Outcome.{Outcome}
use Rattle.bs_reach.specs.declared.reach.Outcome.TheVariants.{Reached, Unreached, Unknown}
use Rattle.bs_reach.specs.declared.reach.Reach.{Reach}
use Rattle.bs_reach.specs.Reach.{IsReach}
use Rattle.bs_reach.specs.Text.{reach_text}
use Rattle.bs_top.specs.Drawn.{IsDrawn}
use Rattle.bs_top.specs.Work.{Work, to_run, to_audit, to_dump, to_demo, to_wave, to_reach}

-- the status of a backtrace by its stop
abbrev pub stop_status : Stop → Status
stop_status Reset = S.Done
stop_status Length = S.Done
stop_status Nohit = S.Nohit
stop_status Empty = S.Empty
stop_status Candidates = S.Spent
stop_status Conflicts = S.Spent

-- the recorded runs of the chip of a crash
abbrev pub recording_for : Crash → Recording
recording_for crash = record { circuit = crash.circuit; choice = crash.choice; runs = crash.runs }

-- A backtrace within the budgets: what holds of its report. It goes back whatever the budget of candidates is: where its first step
-- hits at a cycle within the budget of steps, and no list with a hit ended with conflicts, it comes to reset or stops with conflicts.
-- Each step of its log leaves the lemmas that are kept and no block, and each lemma is a new resolvent; a list ends in conflicts only
-- as the budget of lemmas allows. Each step whose list did not end with conflicts hits the first moment of any run in a predecessor, listed
-- or not, and where it has no hit no recorded moment is in one; or else the search for that moment was cut, far enough, or where a solve
-- spent its budget. Where the dump is known in part, and the input recorded at the first hit leads to a state that shows it, the first step
-- lists this input for the state hit. And the report is read back from its text.
pub record IsBacktrace (crash : Crash) (budgets : Budgets) (report : Report) : Type 0 where
  pub asked : report.budgets ≡ budgets
  pub sound : IsSoundReport crash report
  pub progress : GoesBack report
  pub lean : IsLean (basis_for crash report).problem (history_of report.log)
  pub bound : HasBound (basis_for crash report).problem report
  pub searched : WereSearched (recording_for crash) budgets.conflicts report.steps
  pub takes : All (TakesRecorded crash.circuit crash.runs) report.steps
  pub readable : HasReportText report

-- ---- what is answered and written

pub record Reports (crash : Crash) (budgets : Budgets) (status : Status) (text : List ℕ) : Type 0 where
  pub report : Report
  pub backtrace : IsBacktrace crash budgets report
  pub written : text ≡ report_text report
  pub answered : status ≡ stop_status report.stop

-- this is the first part of the report that fails, if one does; where none does, the report is sound
pub record Finds (crash : Crash) (report : Report) (part : Option Part) : Type 0 where
  pub first : part ≡ first_failing crash (basis_for crash report) report
  pub accepted : part ≡ None → IsSoundReport crash report

pub record Audits (crash : Crash) (report : Report) (status : Status) (text : List ℕ) : Type 0 where
  pub part : Option Part
  pub finds : Finds crash report part
  pub answered : status ≡ finding_status part
  pub written : text ≡ finding_text part

-- the report is audited, and the waveform of its trace is written where no part of it fails
pub record Draws (raw : Parts) (crash : Crash) (report : Report) (status : Status) (text : List ℕ) : Type 0 where
  pub part : Option Part
  pub finds : Finds crash report part
  pub answered : status ≡ finding_status part
  pub written : IsDrawn raw report part text

-- the budgets of a generated job's backtrace
abbrev pub demo_budgets : Budgets
demo_budgets = record { steps = DEMO_STEPS; candidates = DEMO_CANDIDATES; conflicts = DEMO_CONFLICTS }

-- there is a backtrace of which this line tells the numbers and the cause
pub record Summarises (number : ℕ) (crash : Crash) (status : Status) (text : List ℕ) : Type 0 where
  pub report : Report
  pub backtrace : IsBacktrace crash demo_budgets report
  pub written : text ≡ summary_text number report
  pub answered : status ≡ S.Done

-- the status of an answer whether a state is reached
abbrev pub reach_status : Outcome → Status
reach_status (Reached j) = S.Done
reach_status Unreached = S.Unreached
reach_status (Unknown j) = S.Spent

-- a right answer whether the state is reached in at most k cycles, where each length may take b lemmas
pub record Answers (c : Circuit) (p : Seen) (k b : ℕ) (status : Status) (text : List ℕ) : Type 0 where
  pub reach : Reach
  pub right : IsReach c p k b reach
  pub written : text ≡ reach_text reach
  pub answered : status ≡ reach_status reach.outcome

-- the reply to work that is done is right
abbrev pub replies : Work → Status → List ℕ → Type 0
replies (to_run budgets crash_files) status text = Reports (crash_of (recording_in crash_files.setup) crash_files.dump) budgets status text
replies (to_audit audit_files) status text = Audits (crash_of (recording_in audit_files.crash_files.setup) audit_files.crash_files.dump) audit_files.report status text
replies (to_dump moment_files) status text = (status ≡ S.Done) × (text ≡ dump_text (dump_at (recording_in moment_files.setup) moment_files.moment))
replies (to_demo number moment_files) status text =
    Summarises number (crash_of (recording_in moment_files.setup) (dump_at (recording_in moment_files.setup) moment_files.moment)) status text
replies (to_wave audit_files) status text =
    Draws audit_files.crash_files.setup.raw (crash_of (recording_in audit_files.crash_files.setup) audit_files.crash_files.dump) audit_files.report status text
replies (to_reach conflicts target) status text = Answers (circuit_of target.raw) target.state target.cycles conflicts status text

-- ---- the netlist by which a reply speaks of a circuit

-- the netlist of the work
abbrev pub netlist_of : Work → Parts
netlist_of (to_run budgets crash_files) = crash_files.setup.raw
netlist_of (to_audit audit_files) = audit_files.crash_files.setup.raw
netlist_of (to_dump moment_files) = moment_files.setup.raw
netlist_of (to_demo number moment_files) = moment_files.setup.raw
netlist_of (to_wave audit_files) = audit_files.crash_files.setup.raw
netlist_of (to_reach conflicts target) = target.raw

-- Where a text has several modules, and is read as this netlist by whatever path, the netlist is the flat netlist of their design, and means it.
pub record MeansItsDesign (raw : Parts) : Type 0 where
  pub means : (path bytes : List ℕ) → HasModules bytes → netlist_in path bytes ≡ Ok raw → MeansDesign bytes raw

-- the reply to work that is done is right, and so is what its netlist means
pub record Finished (work : Work) (status : Status) (text : List ℕ) : Type 0 where
  pub reply : replies work status text
  pub design : MeansItsDesign (netlist_of work)

abbrev pub finishes : Work → Status → List ℕ → Type 0
finishes work status text = Finished work status text
