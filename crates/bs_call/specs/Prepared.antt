-- What stands before the first put: the reply, and the note on it.
use Rattle.std.specs.Prelude.{◌≢◌, ℕ, List, [], Bool, true, false, Option, Some, Result, Ok, Err, IfOk}
use Rattle.bs_bits.specs.declared.memory.NoMemory.{NoMemory}
use Rattle.bs_outside.specs.Calls.{FetchCall}
use Rattle.bs_outside.specs.declared.file.File.{File}
use Rattle.bs_outside.specs.declared.reply.Reply.{Reply}
use Rattle.bs_outside.specs.declared.status.Status.{Status}
use Rattle.bs_outside.specs.declared.status.Status.TheVariants.{ReadFault}
use Rattle.bs_outside.specs.Asking.{Along}
use Rattle.bs_outside.specs.PlanFiles.{is_work_status}
use Rattle.bs_outside.specs.Plan.{Tells, Counts, Plan, PlanOutcome, ready}
use Rattle.bs_outside.specs.Prepared.{Prepared, PreparesAlone}
use Rattle.bs_call.specs.declared.note.Response.{Response}
use Rattle.bs_call.specs.declared.note.Note.{Note}
use Rattle.bs_call.specs.declared.note.Note.TheVariants.{Silent, Brief, Text, Wanting}
use Rattle.bs_call.specs.Stops.{IsStopNote}

-- The note is on a stop to which these very fetches lead along the plan: so it is about the bytes that they brought.
pub record IsStopAlong {R W : Type 0} (notes : R → List ℕ → Type 0) (path_of : File → List ℕ) (plan : Plan R W) (fetches : List FetchCall)
    (note : List ℕ) : Type 0 where
  pub outcome : PlanOutcome R W
  pub along : Along plan fetches (Some outcome)
  pub says : IsStopNote notes path_of outcome note

-- These fetches lead along the plan to this work, and what is said goes with the work and its text.
pub record IsWorkAlong {R W : Type 0} (speaks : W → List ℕ → Note → Type 0) (plan : Plan R W) (fetches : List FetchCall) (text : List ℕ)
    (note : Note) : Type 0 where
  pub work : W
  pub along : Along plan fetches (Some (ready work))
  pub says : speaks work text note

-- What is said of a stop: a note on it. Memory may run out for one on a file that is refused, and for none on a file that does not read.
abbrev pub StopSaid : {R W : Type 0} → (R → List ℕ → Type 0) → (File → List ℕ) → Plan R W → List FetchCall → Status → Note → Type 0
StopSaid notes path_of plan fetches status Silent = ⊥
StopSaid notes path_of plan fetches status (Brief said) = IsStopAlong notes path_of plan fetches said
StopSaid notes path_of plan fetches status (Text note) = IsStopAlong notes path_of plan fetches note.items
StopSaid notes path_of plan fetches status Wanting = status ≢ ReadFault

-- what is said, by whether the work is done
abbrev pub NoteBy : {R W : Type 0} → (done : Bool) → (R → List ℕ → Type 0) → (W → List ℕ → Note → Type 0) → (File → List ℕ) → Plan R W →
    List FetchCall → Status → List ℕ → Note → Type 0
NoteBy true notes speaks path_of plan fetches status text note = IsWorkAlong speaks plan fetches text note
NoteBy false notes speaks path_of plan fetches status text note = StopSaid notes path_of plan fetches status note

-- what is said of an answer with this status and text, after these fetches along the plan
abbrev pub NoteAlong : {R W : Type 0} → (R → List ℕ → Type 0) → (W → List ℕ → Note → Type 0) → (File → List ℕ) → Plan R W → List FetchCall → Status →
    List ℕ → Note → Type 0
NoteAlong notes speaks path_of plan fetches status text note =
    NoteBy (is_work_status status) notes speaks path_of plan fetches status text note

abbrev pub replied : Result Response NoMemory → Result Reply NoMemory
replied (Ok answer) = Ok answer.reply
replied (Err want) = Err want

-- The reply is one that the words call for, unless memory ran out, and the note is one that `is` allows after the same fetches.
pub record PreparedNoted {S R W : Type 0} (allows : R → List ℕ → Type 0) (finishes : W → Status → List ℕ → Type 0)
    (is : List FetchCall → Status → List ℕ → Note → Type 0) (held : S → Tells) (faults : S → Counts) (leads : S → FetchCall → S → Type 0)
    (before now : S) (plan : Option (Plan R W)) (result : Result Response NoMemory) : Type 0 where
  pub reply : Prepared allows finishes held faults leads before now plan (replied result)
  pub note : IfOk result (λ answer. is reply.fetches answer.reply.status answer.reply.text.items answer.note)

-- the same, where no shelf is asked
pub record PreparesNoted {R W : Type 0} (allows : R → List ℕ → Type 0) (finishes : W → Status → List ℕ → Type 0)
    (is : List FetchCall → Status → List ℕ → Note → Type 0) (plan : Plan R W) (answer : Response) : Type 0 where
  pub reply : PreparesAlone allows finishes plan answer.reply
  pub note : is [] answer.reply.status answer.reply.text.items answer.note
