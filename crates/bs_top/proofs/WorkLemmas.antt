-- Work that is done has a status of its own kind.
use Rattle.std.proofs.Common.{◌≡◌, ℕ, true, List, Option, Some, None, Result, Ok, Err, refl, ap, subst, ◌∙◌}
use Rattle.std.specs.Prelude.{IfOk, IsErr, option_map}
use Rattle.std.proofs.lemmas.Bool.{false≢true}
use Rattle.bs_bits.specs.declared.memory.NoMemory.{NoMemory}
use Rattle.bs_outside.specs.Calls.{FetchCall}
use Rattle.bs_report.specs.declared.report.Stop.{Stop}
use Rattle.bs_report.specs.declared.report.Stop.TheVariants.{Reset, Length, Nohit, Empty, Candidates, Conflicts}
use Rattle.bs_report.specs.declared.part.Part.{Part}
use Rattle.bs_top.specs.Rejected.{finding_status}
use Rattle.bs_outside.specs.declared.status.Status.{Status}
use Rattle.bs_note_calls.specs.Words.{IsWordsNote}
use Rattle.bs_call.specs.declared.note.Response.{Response}
use Rattle.bs_call.specs.Note.{Sure}
use Rattle.bs_call.specs.Prepared.{PreparedNoted}
use Rattle.bs_call.proofs.AnswerLemmas.{noted_nothing, noted_words}
use Rattle.bs_outside.specs.Answers.{RefusesWords}
use Rattle.bs_outside.specs.PlanFiles.{is_work_status}
use Rattle.bs_outside.specs.Plan.{Tells, Counts, Plan}
use Rattle.bs_outside.specs.Prepared.{IsWork}
use Rattle.bs_top_words.specs.Job.{Job}
use Rattle.bs_top_files.specs.Causes.{Case, CheckSays}
use Rattle.bs_top.specs.Work.{Work, to_run, to_audit, to_dump, to_demo, to_wave, to_reach, plan_of}
use Rattle.bs_reach.specs.declared.reach.Outcome.{Outcome}
use Rattle.bs_reach.specs.declared.reach.Outcome.TheVariants.{Reached, Unreached, Unknown}
use Rattle.bs_top.specs.Finishes.{finishes, MeansItsDesign, netlist_of, replies, stop_status, reach_status}
use Rattle.bs_top.specs.Said.{JobSaid, WordsSaid}

stop_work : (stop : Stop) → is_work_status (stop_status stop) ≡ true
stop_work Reset = refl
stop_work Length = refl
stop_work Nohit = refl
stop_work Empty = refl
stop_work Candidates = refl
stop_work Conflicts = refl

finding_work : (part : Option Part) → is_work_status (finding_status part) ≡ true
finding_work None = refl
finding_work (Some part) = refl

reach_work : (outcome : Outcome) → is_work_status (reach_status outcome) ≡ true
reach_work (Reached j) = refl
reach_work Unreached = refl
reach_work (Unknown j) = refl

work_status : (work : Work) (status : Status) (text : List ℕ) → replies work status text → is_work_status status ≡ true
work_status (to_run budgets crash_files) status text done = ap is_work_status done.answered ∙ stop_work done.report.stop
work_status (to_audit audit_files) status text done = ap is_work_status done.answered ∙ finding_work done.part
work_status (to_dump moment_files) status text done = ap is_work_status done.0 ∙ refl
work_status (to_demo number moment_files) status text done = ap is_work_status done.answered ∙ refl
work_status (to_wave audit_files) status text done = ap is_work_status done.answered ∙ finding_work done.part
work_status (to_reach conflicts target) status text done = ap is_work_status done.answered ∙ reach_work done.reach.outcome

pub is_work : IsWork finishes
is_work = record { status = λ work status text done. work_status work status text done.reply }

-- an answer whose reply is right, by a netlist that means its design
pub finished : (work : Work) (r : Result Response NoMemory) → MeansItsDesign (netlist_of work) →
    IfOk r (λ a. replies work a.reply.status a.reply.text.items) → IfOk r (λ a. finishes work a.reply.status a.reply.text.items)
finished work (Ok answer) means right = record { reply = right; design = means }
finished work (Err want) means right = tt

-- the answer to a job that the words ask for
pub prepared_for : {S : Type 0} {held : S → Tells} {faults : S → Counts} {leads : S → FetchCall → S → Type 0} {before now : S}
    {r : Result Response NoMemory} (words : List (List ℕ)) (job : Job) (asked : Option Job) → Some job ≡ asked →
    PreparedNoted CheckSays finishes (JobSaid job) held faults leads before now (Some (plan_of job)) r →
    PreparedNoted CheckSays finishes (WordsSaid words asked) held faults leads before now (option_map plan_of asked) r
prepared_for {held = held} {faults = faults} {leads = leads} {before = before} {now = now} {r = r} words job asked e h =
    subst (λ (o : Option Job). PreparedNoted CheckSays finishes (WordsSaid words o) held faults leads before now (option_map plan_of o) r) e h

-- the answer to words that are no job
pub prepared_none : {S : Type 0} {held : S → Tells} {faults : S → Counts} {leads : S → FetchCall → S → Type 0} {before : S} (words : List (List ℕ))
    (asked : Option Job) (r : Result Response NoMemory) → None ≡ asked → IfOk r (λ a. RefusesWords a.reply.status a.reply.text.items) →
    IfOk r (λ a. Sure (IsWordsNote words) a.note) →
    PreparedNoted CheckSays finishes (WordsSaid words asked) held faults leads before before (option_map plan_of asked) r
prepared_none {held = held} {faults = faults} {leads = leads} {before = before} words asked r e refuses says =
    subst (λ (o : Option Job). PreparedNoted CheckSays finishes (WordsSaid words o) held faults leads before before (option_map plan_of o) r) e
    (noted_words r refuses says)

-- words that could not be read
pub prepared_short : {S : Type 0} {held : S → Tells} {faults : S → Counts} {leads : S → FetchCall → S → Type 0} {before : S} (words : List (List ℕ))
    (asked : Option Job) (plan : Option (Plan Case Work)) (r : Result Response NoMemory) → IsErr r →
    PreparedNoted CheckSays finishes (WordsSaid words asked) held faults leads before before plan r
prepared_short words asked plan (Err want) e = noted_nothing plan
prepared_short words asked plan (Ok answer) e = absurd (false≢true e)
