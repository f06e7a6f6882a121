-- The clauses of a call that does a job: what its answer says of the words, the shelf and the sink.
use Rattle.std.specs.Prelude.{◌≡◌, ◌≢◌, ◌↔◌, ℕ, List, codes, Option, Some, None, IfSome}
use Rattle.std.specs.Io.{StartsWith}
use Rattle.std.specs.Io.KnownBytes.{Appends}
use Rattle.bs_outside.specs.Calls.{FetchCall, PutCall, InTurn}
use Rattle.bs_outside.specs.Faults.{Rose}
use Rattle.bs_outside.specs.declared.file.File.{File}
use Rattle.bs_outside.specs.declared.status.Status.{Status}
use Rattle.bs_outside.specs.declared.status.Status.TheVariants.{Words, ReadFault, WriteFault}
use Rattle.bs_outside.specs.PlanFiles.{refusal_line, refusal_status}
use Rattle.bs_outside.specs.Plan.{Tells, Counts, Wanted, Reason, Plan, PlanOutcome, refused, Ends, told_end, Reaches}
use Rattle.bs_outside.specs.Answers.{CallsFor, CallsByTold}
use Rattle.bs_outside.specs.Asking.{AsksWhole, AsksShort}
use Rattle.bs_outside.specs.Delivery.{PutsLines}

-- What the words call for was written whole, or its front, where a put failed.
pub record Answered {R W : Type 0} (allows : R → List ℕ → Type 0) (finishes : W → Status → List ℕ → Type 0) (told : Tells) (before now : Counts)
    (plan : Option (Plan R W)) (written_before written_now : Option (List ℕ)) (status : Status) : Type 0 where
  pub called_for : Status
  pub text : List ℕ
  pub calls : CallsFor allows finishes told before now plan called_for text
  pub part : List ℕ
  pub wrote : Appends written_before written_now part
  pub whole : status ≢ WriteFault → (status ≡ called_for) × (part ≡ text)
  pub cut : status ≡ WriteFault → StartsWith text part

-- the whole text was written that the words call for, by what the shelf tells
pub record AnsweredAsTold {R W : Type 0} (allows : R → List ℕ → Type 0) (finishes : W → Status → List ℕ → Type 0) (told : Tells)
    (plan : Option (Plan R W)) (written_before written_now : Option (List ℕ)) (status : Status) : Type 0 where
  pub text : List ℕ
  pub calls : CallsByTold allows finishes told plan status text
  pub wrote : Appends written_before written_now text

-- exactly the words that are no job are answered by Words
pub record IsWordsOnlyFor {J : Type 0} (job : Option J) (status : Status) : Type 0 where
  pub refused : job ≡ None → status ≡ Words
  pub only : status ≡ Words → job ≡ None

-- the outcome refuses this file, or this state
abbrev pub Refuses : {R W : Type 0} → PlanOutcome R W → File → Type 0
Refuses {R = R} outcome file = (reason : Reason R) × (outcome ≡ refused file reason)

-- A refusal status comes exactly where the walk's first refusal is of that file: as the shelf tells, where it tells the files
-- that the walk comes to, and else in some way that agrees with the shelf.
pub record RefusesFirst {R W : Type 0} (told : Tells) (before now : Counts) (plan : Plan R W) (status : Status) : Type 0 where
  pub exact : IfSome (told_end told plan) (λ outcome. (file : File) → (status ≡ refusal_status file) ↔ Refuses outcome file)
  pub some_way : (file : File) → status ≡ refusal_status file → (reason : Reason R) × Ends told before now plan (refused file reason)

-- the same of words: those that are no job are answered by no file's refusal
abbrev pub RefusesFirstOf : {R W : Type 0} → Tells → (before now : Counts) → Option (Plan R W) → Status → Type 0
RefusesFirstOf told before now None status = (file : File) → status ≢ refusal_status file
RefusesFirstOf told before now (Some plan) status = RefusesFirst told before now plan status

-- a fetch of a file of the job failed: its count rose, and the plan comes to it in some way that agrees with the shelf, so that no file before it is refused
pub record FailedToRead {R W : Type 0} (told : Tells) (before now : Counts) (plan : Plan R W) (written_before written_now : Option (List ℕ)) : Type 0 where
  pub wanted : Wanted
  pub reached : Reaches told plan wanted
  pub cause : Rose (before wanted.name) (now wanted.name)
  pub wrote : Appends written_before written_now (refusal_line wanted.file (codes "ReadFault"))

abbrev pub ReadFaultOf : {R W : Type 0} → Tells → (before now : Counts) → Option (Plan R W) → (written_before written_now : Option (List ℕ)) → Type 0
ReadFaultOf told before now None written_before written_now = ⊥
ReadFaultOf told before now (Some plan) written_before written_now = FailedToRead told before now plan written_before written_now

-- in some way that agrees with the shelf, the job comes to this file
abbrev pub ComesToFile : {R W : Type 0} → Tells → Option (Plan R W) → Wanted → Type 0
ComesToFile told None wanted = ⊥
ComesToFile told (Some plan) wanted = Reaches told plan wanted

-- the call counted no fault of a file of the job or of the sink, and none of their counts stands at the greatest `u64`
pub record IsCalm {R W : Type 0} (told : Tells) (before now : Counts) (plan : Option (Plan R W)) (sink_before sink_now : ℕ) : Type 0 where
  pub files : (w : Wanted) → ComesToFile told plan w → Rose (before w.name) (now w.name) → ⊥
  pub sink : Rose sink_before sink_now → ⊥

-- The whole text was written that the words call for, in some way that agrees with the shelf, and no fault is answered.
pub record AnsweredWhole {R W : Type 0} (allows : R → List ℕ → Type 0) (finishes : W → Status → List ℕ → Type 0) (told : Tells) (before now : Counts)
    (plan : Option (Plan R W)) (written_before written_now : Option (List ℕ)) (status : Status) : Type 0 where
  pub text : List ℕ
  pub calls : CallsFor allows finishes told before now plan status text
  pub wrote : Appends written_before written_now text
  pub read : status ≢ ReadFault
  pub write : status ≢ WriteFault

-- What was asked of the shelf and put into the sink, call by call: the files of the job in their order, each once, up to the one that
-- stopped it; then the lines of the text that this calls for, one by one, up to and with one that failed.
pub record CallByCall {S K R W : Type 0} (allows : R → List ℕ → Type 0) (finishes : W → Status → List ℕ → Type 0)
    (fetch_leads : S → FetchCall → S → Type 0) (shelf_before shelf_now : S) (put_leads : K → PutCall → K → Type 0) (sink_before sink_now : K)
    (plan : Option (Plan R W)) (status : Status) : Type 0 where
  pub called_for : Status
  pub text : List ℕ
  pub fetches : List FetchCall
  pub asked : InTurn fetch_leads shelf_before fetches shelf_now
  pub along : AsksWhole allows finishes plan fetches called_for text
  pub lines : PutsLines put_leads sink_before sink_now text status
  pub answered : status ≢ WriteFault → status ≡ called_for

-- The same once memory ran out: the first of those files, and no put.
pub record CallsWanting {S K R W : Type 0} (fetch_leads : S → FetchCall → S → Type 0) (shelf_before shelf_now : S) (sink_before sink_now : K)
    (plan : Option (Plan R W)) : Type 0 where
  pub fetches : List FetchCall
  pub asked : InTurn fetch_leads shelf_before fetches shelf_now
  pub along : AsksShort plan fetches
  pub none_put : sink_now ≡ sink_before
