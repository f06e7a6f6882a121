-- The reply of a walk, and the note on the same fetches; and what the call does with both.
use Rattle.std.proofs.Common.{◌≡◌, ◌≢◌, ◌∙◌, ap, sym, subst, ℕ, List, [], Bool, true, false, Option, Some, None, Result, Ok, Err, refl}
use Rattle.std.specs.Prelude.{IfOk}
use Rattle.bs_bits.specs.declared.memory.NoMemory.{NoMemory}
use Rattle.bs_outside.specs.Calls.{FetchCall, PutCall}
use Rattle.bs_outside.specs.Texts.{Output}
use Rattle.bs_outside.specs.declared.file.File.{File}
use Rattle.bs_outside.specs.declared.file.File.TheVariants as files
use Rattle.bs_outside.specs.declared.status.Status.{Status}
use Rattle.bs_outside.specs.declared.status.Status.TheVariants.{ReadFault, WriteFault}
use Rattle.bs_outside.specs.declared.file_fetch.JobFault.{JobFault}
use Rattle.bs_outside.specs.declared.file_fetch.JobFault.TheVariants as J
use Rattle.bs_outside.specs.declared.diagnostic.WalkStop.{WalkStop}
use Rattle.bs_outside.specs.declared.diagnostic.WalkStop.TheVariants as S
use Rattle.bs_outside.specs.PlanFiles.{is_work_status, refusal_status}
use Rattle.bs_outside.specs.Plan.{Tells, Counts, Plan, end, fetch, refuse, ◌>>=◌, ready, faulted, refused}
use Rattle.bs_outside.specs.Asking.{Along, AsksTo, GoesTo}
use Rattle.bs_outside.specs.Delivery.{CountsPuts, Delivers, PutsLines}
use Rattle.bs_outside.specs.Prepared.{AnswersStop, IsWork}
use Rattle.bs_outside.specs.Telling.{WalksDiagnosed}
use Rattle.bs_outside.specs.Diagnostic.{line_stop, lined, note_seen, note_stop}
use Rattle.bs_outside.specs.Walks.{WalksAlone}
use Rattle.bs_outside.proofs.AskingLemmas.{goes_as}
use Rattle.bs_outside.proofs.Preparing.{alone_stop, alone_work, prepares_alone, prepares_nothing, prepares_stop, prepares_words, prepares_work}
use Rattle.bs_outside.proofs.TellingLemmas.{line_walks, note_walks}
use Rattle.bs_outside.proofs.Walking.{walks_as}
use Rattle.bs_outside.specs.Answers.{RefusesWords}
use Rattle.bs_call.specs.declared.note.Response.{Response}
use Rattle.bs_call.specs.declared.note.Note.{Note}
use Rattle.bs_call.specs.declared.note.Note.TheVariants.{Silent, Brief, Text, Wanting}
use Rattle.bs_call.specs.Note.{Sure}
use Rattle.bs_call.specs.Paths.{Paths, path_of}
use Rattle.bs_call.specs.Prepared.{IsWorkAlong, NoteAlong, NoteBy, PreparedNoted, PreparesNoted, StopSaid}
use Rattle.bs_call.specs.Said.{CallNoted, FailNoted, IsCutNote, PutsNote, SaysSent}
use Rattle.bs_call.specs.Stops.{StopNoted}

refusal_no_work : (file : File) → is_work_status (refusal_status file) ≡ false
refusal_no_work files.Netlist = refl
refusal_no_work files.Signature = refl
refusal_no_work files.Stimulus = refl
refusal_no_work files.Dump = refl
refusal_no_work files.Report = refl
refusal_no_work files.State = refl
refusal_no_work files.Vcd = refl
refusal_no_work files.Map = refl
refusal_no_work files.Name = refl

stop_no_work : (fault : JobFault) (status : Status) (text : List ℕ) → AnswersStop fault status text → is_work_status status ≡ false
stop_no_work J.NoMemory status text h = absurd h
stop_no_work (J.Faulted file) status text h = ap is_work_status h.0
stop_no_work (J.Refused file why) status text h = ap is_work_status h.0 ∙ refusal_no_work file

-- the same names
pub stop_named : {p q : Paths} (fault : JobFault) (r : Result Response NoMemory) → p ≡ q → IfOk r (λ a. StopNoted (path_of p) fault a.note) →
    IfOk r (λ a. StopNoted (path_of q) fault a.note)
stop_named fault r same says = subst (λ (n : Paths). IfOk r (λ a. StopNoted (path_of n) fault a.note)) same says

-- what is said of work
by_work : {R W : Type 0} (notes : R → List ℕ → Type 0) (speaks : W → List ℕ → Note → Type 0) (path_of : File → List ℕ) (plan : Plan R W)
    (fetches : List FetchCall) (status : Status) (text : List ℕ) (note : Note) (done : Bool) → done ≡ true →
    IsWorkAlong speaks plan fetches text note → NoteBy done notes speaks path_of plan fetches status text note
by_work notes speaks path_of plan fetches status text note done is along =
    subst (λ (b : Bool). NoteBy b notes speaks path_of plan fetches status text note) (sym is) along

-- a refusal is no read fault
refusal_no_fault : (file : File) → refusal_status file ≢ ReadFault
refusal_no_fault files.Netlist = λ e. absurd cc
refusal_no_fault files.Signature = λ e. absurd cc
refusal_no_fault files.Stimulus = λ e. absurd cc
refusal_no_fault files.Dump = λ e. absurd cc
refusal_no_fault files.Report = λ e. absurd cc
refusal_no_fault files.State = λ e. absurd cc
refusal_no_fault files.Vcd = λ e. absurd cc
refusal_no_fault files.Map = λ e. absurd cc
refusal_no_fault files.Name = λ e. absurd cc

no_fault : (file : File) (status : Status) → status ≡ refusal_status file → status ≢ ReadFault
no_fault file status is = λ e. refusal_no_fault file (sym is ∙ e)

-- memory ran out for the note on no file that does not read
wants_no_fault : (path_of : File → List ℕ) (stop : WalkStop) (status : Status) (text : List ℕ) → AnswersStop (line_stop stop) status text →
    StopNoted path_of (note_stop stop) Wanting → status ≢ ReadFault
wants_no_fault path_of (S.Plain J.NoMemory) status text answers says = absurd answers
wants_no_fault path_of (S.Plain (J.Faulted file)) status text answers says = absurd says.by
wants_no_fault path_of (S.Plain (J.Refused file why)) status text answers says = no_fault file status answers.0
wants_no_fault path_of (S.Refused file diagnostic) status text answers says = no_fault file status answers.0

-- a plan that asks no shelf ends by no fault
alone_reads : {R V : Type 0} (plan : Plan R V) (file : File) → Along plan [] (Some (faulted file)) → ⊥
alone_reads (end v) file along = let e : faulted file ≡ ready v = along.1 in absurd cc
alone_reads (refuse other why) file along = let e : faulted file ≡ refused other why = along.1 in absurd cc
alone_reads (fetch w next) file along = absurd cc

alone_no_fault : {R T W : Type 0} (allows : R → List ℕ → Type 0) (plan : Plan R W) (view : T → W) (line : JobFault) (status : Status) (text : List ℕ) →
    GoesTo allows plan view [] (Err line) → AnswersStop line status text → status ≢ ReadFault
alone_no_fault allows plan view J.NoMemory status text goes answers = absurd answers
alone_no_fault allows plan view (J.Faulted file) status text goes answers = absurd (alone_reads plan file goes)
alone_no_fault allows plan view (J.Refused file why) status text goes answers = no_fault file status answers.0

-- the note on a stop is one on an end of its plan along the fetches
on_stop : {R T W : Type 0} (notes : R → List ℕ → Type 0) (path_of : File → List ℕ) (plan : Plan R W) (view : T → W) (fetches : List FetchCall)
    (status : Status) (fault : JobFault) (note : Note) → GoesTo notes plan view fetches (Err fault) → StopNoted path_of fault note →
    (StopNoted path_of fault Wanting → status ≢ ReadFault) → StopSaid notes path_of plan fetches status note
on_stop notes path_of plan view fetches status J.NoMemory Silent goes says wants = let e : Silent ≡ Wanting = says.by in absurd cc
on_stop notes path_of plan view fetches status J.NoMemory (Brief said) goes says wants = let e : Brief said ≡ Wanting = says.by in absurd cc
on_stop notes path_of plan view fetches status J.NoMemory (Text n) goes says wants = let e : Text n ≡ Wanting = says.by in absurd cc
on_stop notes path_of plan view fetches status J.NoMemory Wanting goes says wants = wants says
on_stop notes path_of plan view fetches status (J.Faulted file) Silent goes says wants = absurd says.by
on_stop notes path_of plan view fetches status (J.Faulted file) (Brief said) goes says wants =
    record { outcome = faulted file; along = goes; says = record { kind = says.kind; written = says.by } }
on_stop notes path_of plan view fetches status (J.Faulted file) (Text n) goes says wants =
    record { outcome = faulted file; along = goes; says = record { kind = says.kind; written = says.by } }
on_stop notes path_of plan view fetches status (J.Faulted file) Wanting goes says wants = wants says
on_stop notes path_of plan view fetches status (J.Refused file why) Silent goes says wants = absurd says.by
on_stop notes path_of plan view fetches status (J.Refused file why) (Brief said) goes says wants =
    record { outcome = refused file goes.0; along = goes.2; says = (why.items, goes.1, says.by) }
on_stop notes path_of plan view fetches status (J.Refused file why) (Text n) goes says wants =
    record { outcome = refused file goes.0; along = goes.2; says = (why.items, goes.1, says.by) }
on_stop notes path_of plan view fetches status (J.Refused file why) Wanting goes says wants = wants says

by_stop : {R T W : Type 0} (notes : R → List ℕ → Type 0) (speaks : W → List ℕ → Note → Type 0) (path_of : File → List ℕ) (plan : Plan R W)
    (view : T → W) (fetches : List FetchCall) (fault line : JobFault) (status : Status) (text : List ℕ) (note : Note) →
    GoesTo notes plan view fetches (Err fault) → AnswersStop line status text → StopNoted path_of fault note →
    (StopNoted path_of fault Wanting → status ≢ ReadFault) → NoteAlong notes speaks path_of plan fetches status text note
by_stop notes speaks path_of plan view fetches fault line status text note goes answers says wants =
    subst (λ (b : Bool). NoteBy b notes speaks path_of plan fetches status text note) (sym (stop_no_work line status text answers))
    (on_stop notes path_of plan view fetches status fault note goes says wants)

-- what a walk that stopped asked for
stop_asks : {R T W : Type 0} (allows : R → List ℕ → Type 0) (finishes : W → Status → List ℕ → Type 0) (plan : Plan R W) (view : T → W)
    (calls : List FetchCall) (fault : JobFault) (status : Status) (text : List ℕ) → GoesTo allows plan view calls (Err fault) →
    AnswersStop fault status text → AsksTo allows finishes plan calls status text
stop_asks allows finishes plan view calls J.NoMemory status text goes line = absurd line
stop_asks allows finishes plan view calls (J.Faulted file) status text goes line = record { outcome = faulted file; along = goes; answers = line }
stop_asks allows finishes plan view calls (J.Refused file why) status text goes line =
    record { outcome = refused file goes.0; along = goes.2; answers = (line.0, (why.items, goes.1, line.1)) }

-- a walk that came to its end
pub diagnosed_work : {S R T W : Type 0} {allows notes : R → List ℕ → Type 0} {finishes : W → Status → List ℕ → Type 0}
    {held : S → Tells} {faults : S → Counts} {leads : S → FetchCall → S → Type 0} {before now : S} {plan : Plan R W}
    {view : T → W} {t : T} (speaks : W → List ℕ → Note → Type 0) (path_of : File → List ℕ) (r : Result Response NoMemory) → IsWork finishes →
    WalksDiagnosed allows notes held faults leads before now plan view (Ok t) → IfOk r (λ a. finishes (view t) a.reply.status a.reply.text.items) →
    IfOk r (λ a. speaks (view t) a.reply.text.items a.note) →
    PreparedNoted allows finishes (NoteAlong notes speaks path_of plan) held faults leads before now (Some plan) r
diagnosed_work {notes = notes} {plan = plan} {view = view} {t = t} speaks path_of (Ok a) kind walks done says = record {
  reply = record {
    answer = (prepares_work (Ok a.reply) kind (line_walks walks) done).answer;
    fetches = walks.fetches;
    asked = walks.asked;
    along = record { outcome = ready (view t); along = walks.line_along; answers = done };
  };
  note =
      by_work notes speaks path_of plan walks.fetches a.reply.status a.reply.text.items a.note (is_work_status a.reply.status)
      (kind.status (view t) a.reply.status a.reply.text.items done) (record { work = view t; along = walks.note_along; says = says });
}
diagnosed_work speaks path_of (Err want) kind walks done says = record { reply = prepares_work (Err want) kind (line_walks walks) tt; note = tt }

-- a walk that stopped
pub diagnosed_stopped : {S R T W : Type 0} {allows notes : R → List ℕ → Type 0} {held : S → Tells} {faults : S → Counts}
    {leads : S → FetchCall → S → Type 0} {before now : S} {plan : Plan R W} {view : T → W} {stop : WalkStop}
    (finishes : W → Status → List ℕ → Type 0) (speaks : W → List ℕ → Note → Type 0) (path_of : File → List ℕ) (r : Result Response NoMemory) →
    WalksDiagnosed allows notes held faults leads before now plan view (Err stop) →
    IfOk r (λ a. AnswersStop (line_stop stop) a.reply.status a.reply.text.items) → IfOk r (λ a. StopNoted path_of (note_stop stop) a.note) →
    PreparedNoted allows finishes (NoteAlong notes speaks path_of plan) held faults leads before now (Some plan) r
diagnosed_stopped {allows = allows} {notes = notes} {plan = plan} {view = view} {stop = stop} finishes speaks path_of (Ok a) walks line says = record {
  reply = record {
    answer = (prepares_stop finishes (Ok a.reply) (line_walks walks) line).answer;
    fetches = walks.fetches;
    asked = walks.asked;
    along = stop_asks allows finishes plan view walks.fetches (line_stop stop) a.reply.status a.reply.text.items walks.line_along line;
  };
  note =
      by_stop notes speaks path_of plan view walks.fetches (note_stop stop) (line_stop stop) a.reply.status a.reply.text.items a.note
      walks.note_along line says (λ want. wants_no_fault path_of stop a.reply.status a.reply.text.items line want);
}
diagnosed_stopped finishes speaks path_of (Err want) walks line says = record { reply = prepares_stop finishes (Err want) (line_walks walks) tt; note = tt }

-- the same walk, with its end named
pub diagnosed_as : {S R T A B : Type 0} {says notes : R → List ℕ → Type 0} {held : S → Tells} {faults : S → Counts}
    {leads : S → FetchCall → S → Type 0} {before now : S} {plan : Plan R A} {view : T → A} {result : Result T WalkStop} (g : A → B) →
    WalksDiagnosed says notes held faults leads before now plan view result →
    WalksDiagnosed says notes held faults leads before now (plan >>= (λ v. end (g v))) (λ t. g (view t)) result
diagnosed_as {says = says} {notes = notes} {plan = plan} {view = view} {result = result} g h = record {
  line = (walks_as g (line_walks h)).is;
  note = (walks_as g (note_walks h)).is;
  fetches = h.fetches;
  asked = h.asked;
  line_along = goes_as says plan g view h.fetches (lined result) h.line_along;
  note_along = goes_as notes plan g view h.fetches (note_seen result) h.note_along;
}

-- ---- plans that ask no shelf

pub alone_worked : {R T W : Type 0} {allows notes : R → List ℕ → Type 0} {finishes : W → Status → List ℕ → Type 0}
    {plan : Plan R W} {view : T → W} {t : T} (speaks : W → List ℕ → Note → Type 0) (path_of : File → List ℕ)
    (r : Result Response NoMemory) → IsWork finishes → WalksAlone allows plan view (Ok t) → WalksAlone notes plan view (Ok t) →
    IfOk r (λ a. finishes (view t) a.reply.status a.reply.text.items) → IfOk r (λ a. speaks (view t) a.reply.text.items a.note) →
    IfOk r (PreparesNoted allows finishes (NoteAlong notes speaks path_of plan) plan)
alone_worked {notes = notes} {plan = plan} {view = view} {t = t} speaks path_of (Ok a) kind walks sees done says = record {
  reply = alone_work (Ok a.reply) kind walks done;
  note =
      by_work notes speaks path_of plan [] a.reply.status a.reply.text.items a.note (is_work_status a.reply.status)
      (kind.status (view t) a.reply.status a.reply.text.items done) (record { work = view t; along = sees.along; says = says });
}
alone_worked speaks path_of (Err want) kind walks sees done says = tt

pub alone_stopped : {R T W : Type 0} {allows notes : R → List ℕ → Type 0} {plan : Plan R W}
    {view : T → W} {fault line : JobFault} (finishes : W → Status → List ℕ → Type 0) (speaks : W → List ℕ → Note → Type 0)
    (path_of : File → List ℕ) (r : Result Response NoMemory) → WalksAlone allows plan view (Err line) → WalksAlone notes plan view (Err fault) →
    IfOk r (λ a. AnswersStop line a.reply.status a.reply.text.items) → IfOk r (λ a. StopNoted path_of fault a.note) →
    IfOk r (PreparesNoted allows finishes (NoteAlong notes speaks path_of plan) plan)
alone_stopped {allows = allows} {notes = notes} {plan = plan} {view = view} {fault = fault} {line = line} finishes speaks path_of (Ok a) walks sees answers says = record {
  reply = alone_stop finishes (Ok a.reply) walks answers;
  note =
      by_stop notes speaks path_of plan view [] fault line a.reply.status a.reply.text.items a.note sees.along answers says
      (λ want. alone_no_fault allows plan view line a.reply.status a.reply.text.items walks.along answers);
}
alone_stopped finishes speaks path_of (Err want) walks sees answers says = tt

-- a job that asks no shelf, over any shelf
pub noted_alone : {S R W : Type 0} {allows : R → List ℕ → Type 0} {finishes : W → Status → List ℕ → Type 0}
    {is : List FetchCall → Status → List ℕ → Note → Type 0} {held : S → Tells} {faults : S → Counts} {leads : S → FetchCall → S → Type 0} {before : S}
    {plan : Plan R W} (r : Result Response NoMemory) → IfOk r (PreparesNoted allows finishes is plan) →
    PreparedNoted allows finishes is held faults leads before before (Some plan) r
noted_alone {held = held} {faults = faults} {before = before} (Ok a) h = record {
  reply = record { answer = h.reply.is (held before) (faults before); fetches = []; asked = refl; along = h.reply.along };
  note = h.note;
}
noted_alone (Err want) h = record { reply = prepares_alone (Err want) tt; note = tt }

-- words that are no job
pub noted_words : {S R W : Type 0} {allows : R → List ℕ → Type 0} {finishes : W → Status → List ℕ → Type 0}
    {is : List FetchCall → Status → List ℕ → Note → Type 0} {held : S → Tells} {faults : S → Counts} {leads : S → FetchCall → S → Type 0} {before : S}
    (r : Result Response NoMemory) → IfOk r (λ a. RefusesWords a.reply.status a.reply.text.items) →
    IfOk r (λ a. is [] a.reply.status a.reply.text.items a.note) → PreparedNoted {R = R} allows finishes is held faults leads before before None r
noted_words {S = S} {R = R} {W = W} {allows = allows} {finishes = finishes} {held = held} {faults = faults} {leads = leads} {before = before} (Ok a) h says = record {
  reply = record {
    answer =
        (prepares_words {R = R} {W = W} {allows = allows} {finishes = finishes} {S = S} {held = held} {faults = faults} {leads = leads}
        {before = before} (Ok a.reply) h).answer;
    fetches = [];
    asked = refl;
    along = (refl, h);
  };
  note = says;
}
noted_words (Err want) h says = record { reply = prepares_words (Err want) tt; note = tt }

-- words that could not be read because memory ran out
pub noted_nothing : {S R W : Type 0} {allows : R → List ℕ → Type 0} {finishes : W → Status → List ℕ → Type 0}
    {is : List FetchCall → Status → List ℕ → Note → Type 0} {held : S → Tells} {faults : S → Counts} {leads : S → FetchCall → S → Type 0} {before : S}
    {want : NoMemory} (plan : Option (Plan R W)) → PreparedNoted allows finishes is held faults leads before before plan (Err want)
noted_nothing plan = record { reply = prepares_nothing plan; note = tt }

-- ---- the call

cut_note : {K : Type 0} {leads : K → PutCall → K → Type 0} {before now : K} {text : List ℕ} {lines : ℕ} {status : Status} (note : Note) →
    CountsPuts leads before now text lines status → status ≡ WriteFault → FailNoted lines note → Sure (IsCutNote leads before now text) note
cut_note Silent counted is says = absurd says
cut_note {lines = lines} (Brief said) counted is says = record { lines = lines; after = counted.failed is; says = says }
cut_note {lines = lines} (Text n) counted is says = record { lines = lines; after = counted.failed is; says = says }
cut_note Wanting counted is says = absurd says

-- the note goes out behind the answer
pub says_sent : {K N : Type 0} {leads : K → PutCall → K → Type 0} {before now : K} {text : List ℕ} {out : Output N} {notes_before notes_now : N}
    {note : Note} {lines : ℕ} {status : Status} (said : Note) → CountsPuts leads before now text lines status → (status ≢ WriteFault → said ≡ note) →
    (status ≡ WriteFault → FailNoted lines said) → PutsNote out notes_before notes_now said →
    SaysSent leads before now text out notes_before notes_now note status
says_sent said counted whole cut put = record { said = said; whole = whole; cut = λ is. cut_note said counted is (cut is); put = put }

pub call_noted : {S K N R W : Type 0} {allows : R → List ℕ → Type 0} {finishes : W → Status → List ℕ → Type 0}
    {is : List FetchCall → Status → List ℕ → Note → Type 0} {held : S → Tells} {faults : S → Counts} {leads : S → FetchCall → S → Type 0} {before now : S}
    {put_leads : K → PutCall → K → Type 0} {sink_before sink_now : K} {out : Output N} {notes_before notes_now : N} {plan : Option (Plan R W)}
    {answer : Response} {w0 w1 : Option (List ℕ)} {f0 f1 : ℕ} {status : Status} →
    PreparedNoted allows finishes is held faults leads before now plan (Ok answer) →
    Delivers answer.reply.status answer.reply.text.items w0 w1 f0 f1 status → PutsLines put_leads sink_before sink_now answer.reply.text.items status →
    SaysSent put_leads sink_before sink_now answer.reply.text.items out notes_before notes_now answer.note status →
    CallNoted allows finishes is leads before now put_leads sink_before sink_now out notes_before notes_now plan status
call_noted {is = is} {answer = answer} made sent lines says = record {
  call = record {
    called_for = answer.reply.status;
    text = answer.reply.text.items;
    fetches = made.reply.fetches;
    asked = made.reply.asked;
    along = made.reply.along;
    lines = lines;
    answered = λ write. (sent.whole write).0;
  };
  said = says.said;
  whole = λ write. subst (is made.reply.fetches answer.reply.status answer.reply.text.items) (sym (says.whole write)) made.note;
  cut = says.cut;
  put = says.put;
}
