-- What is said of an answer, besides.
use Rattle.std.specs.Prelude.{◌≡◌, ◌≢◌, ℕ, List, [], length, Bool, true, false, Option, Some, None}
use Rattle.bs_net.specs.Parts.{Parts}
use Rattle.bs_loop.specs.Searched.{TellsCut}
use Rattle.bs_outside.specs.Calls.{FetchCall}
use Rattle.bs_note_calls.specs.declared.miss.Miss.{Miss}
use Rattle.bs_note_calls.specs.declared.miss.Miss.TheVariants as M
use Rattle.bs_note_calls.specs.Stops.{cut_lists}
use Rattle.bs_note_calls.specs.Words.{IsWordsNote}
use Rattle.bs_reach.specs.declared.reach.Outcome.{Outcome}
use Rattle.bs_reach.specs.declared.reach.Outcome.TheVariants.{Reached, Unreached, Unknown}
use Rattle.bs_reach.specs.declared.reach.Reach.{Reach}
use Rattle.bs_reach.specs.Text.{reach_text}
use Rattle.bs_report.specs.declared.report.Budgets.{Budgets}
use Rattle.bs_report.specs.declared.report.Report.{Report}
use Rattle.bs_report.specs.Text.{report_text}
use Rattle.bs_report.specs.declared.part.Part.{Part}
use Rattle.bs_call.specs.declared.note.Note.{Note}
use Rattle.bs_call.specs.declared.note.Note.TheVariants.{Silent, Wanting}
use Rattle.bs_call.specs.Endings.{is_searched, miss_text_of, rejected_text_if, run_text}
use Rattle.bs_call.specs.Note.{DueText, Sure, SureText}
use Rattle.bs_call.specs.Paths.{Paths, path_of}
use Rattle.bs_call.specs.Prepared.{NoteAlong}
use Rattle.bs_top_files.specs.Entry.{CrashFiles, recording_in}
use Rattle.bs_top_files.specs.Causes.{NoteSays}
use Rattle.bs_outside.specs.declared.status.Status.{Status}
use Rattle.bs_top_words.specs.Job.{Job, Run, Audit, Dump as Moment, Demo, Wave, Reach as Search}
use Rattle.bs_top.specs.Drawn.{IsDrawn}
use Rattle.bs_top.specs.Rejected.{finding_text}
use Rattle.bs_top.specs.Work.{Work, plan_of, to_run, to_audit, to_dump, to_demo, to_wave, to_reach}

-- the names of the files of a job; a name that it does not give is empty
abbrev pub paths_of : Job → Paths
paths_of (Run j) = record { netlist = j.netlist; signature = j.signature; stimulus = j.stimulus; dump = j.dump; report = [] }
paths_of (Audit j) = record { netlist = j.netlist; signature = j.signature; stimulus = j.stimulus; dump = j.dump; report = j.report }
paths_of (Moment j) = record { netlist = j.netlist; signature = j.signature; stimulus = j.stimulus; dump = []; report = [] }
paths_of (Demo number) = record { netlist = []; signature = []; stimulus = []; dump = []; report = [] }
paths_of (Wave j) = record { netlist = j.netlist; signature = j.signature; stimulus = j.stimulus; dump = j.dump; report = j.report }
paths_of (Search j) = record { netlist = j.netlist; signature = []; stimulus = []; dump = []; report = [] }

-- ---- work that is done

-- The text is a report's, and the note tells its stop, where it is not at reset; where no candidate of the first step is hit, it tells
-- what the recorded runs show of the dump. Where some flip-flops of the dump are not known, it tells how many are in place of that, and also
-- at a stop at reset. It tells whether the search for a recorded moment was cut in the last step, as it was, and at a stop at the
-- budget of steps how many lists were cut. Memory may run out for it only where the runs are searched.
pub record RunSaid (budgets : Budgets) (crash_files : CrashFiles) (text : List ℕ) (note : Note) : Type 0 where
  pub report : Report
  pub written : text ≡ report_text report
  pub cut : Bool
  pub tells : TellsCut (recording_in crash_files.setup) budgets.conflicts report.steps cut
  pub says : DueText (run_text (recording_in crash_files.setup) crash_files.dump crash_files.setup.runs (length report.steps) report.stop cut (cut_lists report.steps)) note
  pub sure : is_searched (length report.steps) report.stop ≡ false → note ≢ Wanting

abbrev pub is_rejected : Option Part → Bool
is_rejected None = false
is_rejected (Some part) = true

-- the text tells a finding, or the waveform that is drawn for it, and there is a note where a part fails
pub record AuditSaid (text : List ℕ) (note : Note) : Type 0 where
  pub part : Option Part
  pub written : text ≡ finding_text part
  pub says : SureText (rejected_text_if (is_rejected part)) note

pub record DrawSaid (raw : Parts) (report : Report) (text : List ℕ) (note : Note) : Type 0 where
  pub part : Option Part
  pub written : IsDrawn raw report part text
  pub says : SureText (rejected_text_if (is_rejected part)) note

-- what a search misses by its outcome
abbrev pub miss_of : Outcome → Option Miss
miss_of (Reached j) = None
miss_of Unreached = Some M.Unreached
miss_of (Unknown j) = Some M.Unknown

-- the text is a search's, and there is a note where it has no execution
pub record ReachSaid (text : List ℕ) (note : Note) : Type 0 where
  pub reach : Reach
  pub written : text ≡ reach_text reach
  pub says : SureText (miss_text_of (miss_of reach.outcome)) note

-- what is said of work, by its text
abbrev pub WorkSaid : Work → List ℕ → Note → Type 0
WorkSaid (to_run budgets crash_files) text note = RunSaid budgets crash_files text note
WorkSaid (to_audit audit_files) text note = AuditSaid text note
WorkSaid (to_dump moment_files) text note = note ≡ Silent
WorkSaid (to_demo number moment_files) text note = note ≡ Silent
WorkSaid (to_wave audit_files) text note = DrawSaid audit_files.crash_files.setup.raw audit_files.report text note
WorkSaid (to_reach conflicts target) text note = ReachSaid text note

-- ---- answers

-- what is said of the answer to a job, after these fetches
abbrev pub JobSaid : Job → List FetchCall → Status → List ℕ → Note → Type 0
JobSaid job = NoteAlong NoteSays WorkSaid (path_of (paths_of job)) (plan_of job)

-- the same of words: those that are no job have a note on what is wrong with them
abbrev pub WordsSaid : List (List ℕ) → Option Job → List FetchCall → Status → List ℕ → Note → Type 0
WordsSaid words None = λ fetches status text note. Sure (IsWordsNote words) note
WordsSaid words (Some job) = JobSaid job
