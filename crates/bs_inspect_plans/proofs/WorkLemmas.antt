-- Work that is done has a status of its own kind; and the answers to requests, with what is said of them.
use Rattle.std.proofs.Common.{◌≡◌, ℕ, true, false, List, Option, Some, None, Result, Ok, Err, refl, ap, sym, subst, ◌∙◌}
use Rattle.std.specs.Prelude.{Bool, IfOk, option_map, if◌then◌else◌}
use Rattle.bs_bits.specs.declared.memory.NoMemory.{NoMemory}
use Rattle.bs_outside.specs.Calls.{FetchCall}
use Rattle.bs_outside.specs.declared.file.File.{File}
use Rattle.bs_outside.specs.declared.reply.Reply.{Reply}
use Rattle.bs_outside.specs.declared.status.Status.{Status}
use Rattle.bs_outside.specs.declared.diagnostic.WalkStop.{WalkStop}
use Rattle.bs_outside.specs.PlanFiles.{is_work_status}
use Rattle.bs_outside.specs.Plan.{Tells, Counts, Plan, ◌>>=◌, end}
use Rattle.bs_outside.specs.Prepared.{AnswersStop, IsWork}
use Rattle.bs_outside.specs.Telling.{WalksDiagnosed}
use Rattle.bs_outside.specs.Diagnostic.{line_stop, note_stop}
use Rattle.bs_outside.proofs.TellingLemmas.{diagnosed_end}
use Rattle.bs_call.specs.declared.note.Response.{Response}
use Rattle.bs_call.specs.declared.note.Note.TheVariants.{Silent}
use Rattle.bs_call.specs.Note.{DueText}
use Rattle.bs_call.specs.Prepared.{NoteAlong, PreparedNoted, replied}
use Rattle.bs_call.specs.Stops.{StopNoted}
use Rattle.bs_call.proofs.AnswerLemmas.{diagnosed_as, diagnosed_stopped, diagnosed_work}
use Rattle.bs_top_files.specs.Causes.{Case, CheckSays, NoteSays}
use Rattle.bs_inspect_words.specs.Request.{Request}
use Rattle.bs_inspect_plans.specs.Said.{RequestSaid, said_by, silent, WordsSaid, WorkSaid, work_note}
use Rattle.bs_inspect_plans.specs.Sources.{Sources, source_of}
use Rattle.bs_evidence.specs.declared.flaw.Evidence.{Evidence}
use Rattle.bs_evidence.specs.declared.flaw.Evidence.TheVariants.{Text, Flawed}
use Rattle.bs_inspect_plans.specs.Work.{to_table, to_steps_table, to_lists, to_keys, to_seen, to_state, to_evidence, to_lengths, to_page, to_novel, to_why, to_check, to_bench, to_near, Work, plan_of, to_help, to_version, to_flops, to_inputs, to_stats, to_steps, to_trace, to_runs, to_dump, to_wave, to_save, to_signature}
use Rattle.bs_inspect_check.specs.Comparison.{all_agree}
use Rattle.bs_outside.specs.declared.status.Status.TheVariants.{Done, Rejected}
use Rattle.bs_inspect_report_texts.specs.declared.fault.Bench.{Bench}
use Rattle.bs_inspect_report_texts.specs.declared.fault.Bench.TheVariants as bench
use Rattle.bs_inspect_why.specs.declared.denial.WhyAnswer.{WhyAnswer}
use Rattle.bs_inspect_why.specs.declared.denial.WhyAnswer.TheVariants as why
use Rattle.bs_inspect_plans.specs.Finishes.{bench_status, evidence_status, finishes, why_status}

work_status : (work : Work) (status : Status) (text : List ℕ) → finishes work status text → is_work_status status ≡ true
work_status to_help status text done = ap is_work_status done.0 ∙ refl
work_status to_version status text done = ap is_work_status done.0 ∙ refl
work_status (to_flops raw) status text done = ap is_work_status done.0 ∙ refl
work_status (to_inputs raw) status text done = ap is_work_status done.0 ∙ refl
work_status (to_stats raw) status text done = ap is_work_status done.0 ∙ refl
work_status (to_steps report) status text done = ap is_work_status done.0 ∙ refl
work_status (to_trace all w only trace_files) status text done = ap is_work_status done.0 ∙ refl
work_status (to_runs clock simulated) status text done = ap is_work_status done.0 ∙ refl
work_status (to_dump dumped) status text done = ap is_work_status done.0 ∙ refl
work_status (to_wave from all only trace_files) status text done = ap is_work_status done.0 ∙ refl
work_status (to_save wave from all only trace_files) status text done = ap is_work_status done.0 ∙ refl
work_status (to_signature items run_files) status text done = ap is_work_status done.0 ∙ refl
work_status (to_table w only trace_files) status text done = ap is_work_status done.0 ∙ refl
work_status (to_steps_table report) status text done = ap is_work_status done.0 ∙ refl
work_status (to_lists only trace_files) status text done = ap is_work_status done.0 ∙ refl
work_status (to_keys names raw) status text done = ap is_work_status done.0 ∙ refl
work_status (to_seen named) status text done = ap is_work_status done.0 ∙ refl
work_status (to_state scanned) status text done = ap is_work_status done.0 ∙ refl
work_status (to_evidence kind step report_files) status text done = ap is_work_status done.answered ∙ by done.evidence
  where
    by : (e : Evidence) → is_work_status (evidence_status e) ≡ true
    by (Text t) = refl
    by (Flawed flaw) = refl
work_status (to_lengths kind asked answer_files) status text done = ap is_work_status done.answered ∙ by done.evidence
  where
    by : (e : Evidence) → is_work_status (evidence_status e) ≡ true
    by (Text t) = refl
    by (Flawed flaw) = refl
work_status (to_page asked trace_files) status text done = ap is_work_status done.0 ∙ refl
work_status (to_novel most one_run) status text done = ap is_work_status done.0 ∙ refl
work_status (to_near near_files) status text done = ap is_work_status done.0 ∙ refl
work_status (to_why q trace_files) status text done = ap is_work_status done.answered ∙ by done.answer
  where
    by : (w : WhyAnswer) → is_work_status (why_status w) ≡ true
    by (why.Text t) = refl
    by (why.Denied denial) = refl
work_status (to_check checked) status text done = ap is_work_status done.0 ∙ by (all_agree checked.comparisons)
  where
    by : (b : Bool) → is_work_status (if b then Done else Rejected) ≡ true
    by true = refl
    by false = refl
work_status (to_bench top bench_files) status text done = ap is_work_status done.answered ∙ by done.answer
  where
    by : (b : Bench) → is_work_status (bench_status b) ≡ true
    by (bench.Text t) = refl
    by (bench.Refused fault) = refl

pub is_work : IsWork finishes
is_work = record { status = work_status }

-- a reply with no note on it
silent_done : (finish : Status → List ℕ → Type 0) (r : Result Reply NoMemory) → IfOk r (λ a. finish a.status a.text.items) →
    IfOk (silent r) (λ a. finish a.reply.status a.reply.text.items)
silent_done finish (Ok reply) done = done
silent_done finish (Err want) done = tt

silent_said : (work : Work) (r : Result Reply NoMemory) → work_note work ≡ None → IfOk (silent r) (λ a. WorkSaid work a.reply.text.items a.note)
silent_said work (Ok reply) quiet =
    subst (λ (o : Option (List ℕ → Option (List ℕ))). DueText (said_by o reply.text.items) Silent) (sym quiet) refl
silent_said work (Err want) quiet = tt

-- work that a walk made ready for, on which there is no note
pub diagnosed_done : {S T : Type 0} {held : S → Tells} {faults : S → Counts} {leads : S → FetchCall → S → Type 0} {before now : S} {plan : Plan Case Work}
    {view : T → Work} {t : T} (path_of : File → List ℕ) (r : Result Reply NoMemory) (answer : Result Response NoMemory) →
    answer ≡ silent r → work_note (view t) ≡ None → WalksDiagnosed CheckSays NoteSays held faults leads before now plan view (Ok t) →
    IfOk r (λ a. finishes (view t) a.status a.text.items) →
    PreparedNoted CheckSays finishes (NoteAlong NoteSays WorkSaid path_of plan) held faults leads before now (Some plan) answer
diagnosed_done {held = held} {faults = faults} {leads = leads} {before = before} {now = now} {plan = plan} {view = view} {t = t} path_of r answer
    same quiet walks done =
    subst (PreparedNoted CheckSays finishes (NoteAlong NoteSays WorkSaid path_of plan) held faults leads before now (Some plan)) (sym same)
    (diagnosed_work WorkSaid path_of (silent r) is_work walks (silent_done (finishes (view t)) r done) (silent_said (view t) r quiet))

-- a reply with a note on it
noted_done : (finish : Status → List ℕ → Type 0) (answer : Result Response NoMemory) (r : Result Reply NoMemory) → replied answer ≡ r →
    IfOk r (λ a. finish a.status a.text.items) → IfOk answer (λ a. finish a.reply.status a.reply.text.items)
noted_done finish (Ok a) r same done = subst (λ (x : Result Reply NoMemory). IfOk x (λ b. finish b.status b.text.items)) (sym same) done
noted_done finish (Err want) r same done = tt

-- a walk that stopped, with the names of these files
pub diagnosed_stop_at : {S T : Type 0} {held : S → Tells} {faults : S → Counts} {leads : S → FetchCall → S → Type 0} {before now : S} {plan : Plan Case Work}
    {view : T → Work} {stop : WalkStop} (given sources : Sources) (r : Result Response NoMemory) → given ≡ sources →
    WalksDiagnosed CheckSays NoteSays held faults leads before now plan view (Err stop) →
    IfOk r (λ a. AnswersStop (line_stop stop) a.reply.status a.reply.text.items) → IfOk r (λ a. StopNoted (source_of given) (note_stop stop) a.note) →
    PreparedNoted CheckSays finishes (NoteAlong NoteSays WorkSaid (source_of sources) plan) held faults leads before now (Some plan) r
diagnosed_stop_at {stop = stop} given sources r same walks line says =
    diagnosed_stopped finishes WorkSaid (source_of sources) r walks line
    (subst (λ (n : Sources). IfOk r (λ a. StopNoted (source_of n) (note_stop stop) a.note)) same says)

-- The same by the plan of the walk alone. It is given, so that no proof of a request writes out what it unfolds to.
pub walked_done : {A S T : Type 0} {held : S → Tells} {faults : S → Counts} {leads : S → FetchCall → S → Type 0} {before now : S} {view : T → A} {t : T}
    (plan : Plan Case A) (work : A → Work) (path_of : File → List ℕ) (r : Result Reply NoMemory)
    (answer : Result Response NoMemory) → answer ≡ silent r → work_note (work (view t)) ≡ None →
    WalksDiagnosed CheckSays NoteSays held faults leads before now plan view (Ok t) →
    IfOk r (λ a. finishes (work (view t)) a.status a.text.items) →
    PreparedNoted CheckSays finishes (NoteAlong NoteSays WorkSaid path_of (plan >>= (λ v. end (work v)))) held faults leads before now
    (Some (plan >>= (λ v. end (work v)))) answer
walked_done {T = T} {view = view} {t = t} plan work path_of r answer same quiet walks done =
    diagnosed_done {T = T} {view = λ x. work (view x)} {t = t} path_of r answer same quiet (diagnosed_as work walks) done

-- the same of work on which there is a note
pub walked_noted : {A S T : Type 0} {held : S → Tells} {faults : S → Counts} {leads : S → FetchCall → S → Type 0} {before now : S} {view : T → A} {t : T}
    (plan : Plan Case A) (work : A → Work) (path_of : File → List ℕ) (r : Result Reply NoMemory)
    (answer : Result Response NoMemory) → replied answer ≡ r → IfOk answer (λ a. WorkSaid (work (view t)) a.reply.text.items a.note) →
    WalksDiagnosed CheckSays NoteSays held faults leads before now plan view (Ok t) →
    IfOk r (λ a. finishes (work (view t)) a.status a.text.items) →
    PreparedNoted CheckSays finishes (NoteAlong NoteSays WorkSaid path_of (plan >>= (λ v. end (work v)))) held faults leads before now
    (Some (plan >>= (λ v. end (work v)))) answer
walked_noted {T = T} {view = view} {t = t} plan work path_of r answer same said walks done =
    diagnosed_work {T = T} {view = λ x. work (view x)} {t = t} WorkSaid path_of answer is_work (diagnosed_as work walks)
    (noted_done (finishes (work (view t))) answer r same done) said

pub walked_stop : {A S T : Type 0} {held : S → Tells} {faults : S → Counts} {leads : S → FetchCall → S → Type 0} {before now : S} {view : T → A}
    {stop : WalkStop} (plan : Plan Case A) (work : A → Work) (given sources : Sources) (r : Result Response NoMemory) →
    given ≡ sources → WalksDiagnosed CheckSays NoteSays held faults leads before now plan view (Err stop) →
    IfOk r (λ a. AnswersStop (line_stop stop) a.reply.status a.reply.text.items) → IfOk r (λ a. StopNoted (source_of given) (note_stop stop) a.note) →
    PreparedNoted CheckSays finishes (NoteAlong NoteSays WorkSaid (source_of sources) (plan >>= (λ v. end (work v)))) held faults leads before now
    (Some (plan >>= (λ v. end (work v)))) r
walked_stop plan work given sources r same walks line says =
    diagnosed_stop_at given sources r same (diagnosed_as work walks) line says

-- the answer to a request of no file
pub diagnosed_alone : {S : Type 0} {held : S → Tells} {faults : S → Counts} {leads : S → FetchCall → S → Type 0} {before : S} (work : Work)
    (path_of : File → List ℕ) (r : Result Reply NoMemory) (answer : Result Response NoMemory) → answer ≡ silent r →
    work_note work ≡ None → IfOk r (λ a. finishes work a.status a.text.items) →
    PreparedNoted CheckSays finishes (NoteAlong NoteSays WorkSaid path_of (end work)) held faults leads before before (Some (end work)) answer
diagnosed_alone {held = held} {faults = faults} {leads = leads} {before = before} work path_of r answer same quiet done =
    diagnosed_done {T = Work} {view = λ w. w} {t = work} path_of r answer same quiet diagnosed_end done

-- the answer to a request, where it is this one
pub noted_asked : {S : Type 0} {held : S → Tells} {faults : S → Counts} {leads : S → FetchCall → S → Type 0} {before now : S} (r : Result Response NoMemory)
    (asked request : Request) → asked ≡ request →
    PreparedNoted CheckSays finishes (RequestSaid request) held faults leads before now (Some (plan_of request)) r →
    PreparedNoted CheckSays finishes (RequestSaid asked) held faults leads before now (Some (plan_of asked)) r
noted_asked {held = held} {faults = faults} {leads = leads} {before = before} {now = now} r asked request e h =
    subst (λ (q : Request). PreparedNoted CheckSays finishes (RequestSaid q) held faults leads before now (Some (plan_of q)) r) (sym e) h

-- the answer to a request of these names, where it is of those
pub noted_with : {A S : Type 0} {held : S → Tells} {faults : S → Counts} {leads : S → FetchCall → S → Type 0} {before now : S} (request : A → Request)
    (a b : A) (r : Result Response NoMemory) → a ≡ b →
    PreparedNoted CheckSays finishes (RequestSaid (request b)) held faults leads before now (Some (plan_of (request b))) r →
    PreparedNoted CheckSays finishes (RequestSaid (request a)) held faults leads before now (Some (plan_of (request a))) r
noted_with request a b r is h = noted_asked r (request a) (request b) (ap request is) h

-- the answer to words that are this
pub noted_words_as : {S : Type 0} {held : S → Tells} {faults : S → Counts} {leads : S → FetchCall → S → Type 0} {before now : S} (words : List (List ℕ))
    (read asked : Option Request) (r : Result Response NoMemory) → read ≡ asked →
    PreparedNoted CheckSays finishes (WordsSaid words read) held faults leads before now (option_map plan_of read) r →
    PreparedNoted CheckSays finishes (WordsSaid words asked) held faults leads before now (option_map plan_of asked) r
noted_words_as {held = held} {faults = faults} {leads = leads} {before = before} {now = now} words read asked r e h =
    subst (λ (o : Option Request). PreparedNoted CheckSays finishes (WordsSaid words o) held faults leads before now (option_map plan_of o) r) e h
