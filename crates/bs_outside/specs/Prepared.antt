-- What stands before the first put: the status and the whole text.
use Rattle.std.specs.Prelude.{◌≡◌, ◌≢◌, ℕ, List, [], codes, true, Option, Some, Result, IfOk, MatchResult}
use Rattle.bs_bits.specs.declared.memory.NoMemory.{NoMemory as WantsMemory}
use Rattle.bs_outside.specs.Calls.{FetchCall, InTurn}
use Rattle.bs_outside.specs.declared.status.Status.{Status}
use Rattle.bs_outside.specs.declared.status.Status.TheVariants.{ReadFault, WriteFault}
use Rattle.bs_outside.specs.declared.reply.Reply.{Reply}
use Rattle.bs_outside.specs.declared.file_fetch.JobFault.{JobFault}
use Rattle.bs_outside.specs.declared.file_fetch.JobFault.TheVariants.{NoMemory, Faulted, Refused}
use Rattle.bs_outside.specs.PlanFiles.{refusal_status, refusal_line, is_work_status}
use Rattle.bs_outside.specs.Plan.{Tells, Counts, Plan}
use Rattle.bs_outside.specs.Answers.{CallsFor}
use Rattle.bs_outside.specs.Asking.{AsksTo, AsksWhole, AsksShort}

-- the answer is one that the words call for; a count rose only where it is a read fault
pub record Prepares {R W : Type 0} (allows : R → List ℕ → Type 0) (finishes : W → Status → List ℕ → Type 0) (told : Tells) (before now : Counts)
    (plan : Option (Plan R W)) (answer : Reply) : Type 0 where
  pub calls : CallsFor allows finishes told before now plan answer.status answer.text.items
  pub steady : answer.status ≢ ReadFault → (name : List ℕ) → now name ≡ before name
  pub no_write : answer.status ≢ WriteFault

-- the same, where no shelf is asked
pub record PreparesAlone {R W : Type 0} (allows : R → List ℕ → Type 0) (finishes : W → Status → List ℕ → Type 0) (plan : Plan R W)
    (answer : Reply) : Type 0 where
  pub is : (told : Tells) (before : Counts) → Prepares allows finishes told before before (Some plan) answer
  pub along : AsksTo allows finishes plan [] answer.status answer.text.items

-- The answer is one that the words call for, unless memory ran out; and the shelf was asked for the files of the job alone, in their
-- order, each once, up to the one that stopped it.
pub record Prepared {S R W : Type 0} (allows : R → List ℕ → Type 0) (finishes : W → Status → List ℕ → Type 0) (held : S → Tells) (faults : S → Counts)
    (leads : S → FetchCall → S → Type 0) (before now : S) (plan : Option (Plan R W)) (result : Result Reply WantsMemory) : Type 0 where
  pub answer : IfOk result (Prepares allows finishes (held before) (faults before) (faults now) plan)
  pub fetches : List FetchCall
  pub asked : InTurn leads before fetches now
  pub along : MatchResult result (λ answer. AsksWhole allows finishes plan fetches answer.status answer.text.items) (λ _. AsksShort plan fetches)

-- the answer to a stop
abbrev pub AnswersStop : JobFault → Status → List ℕ → Type 0
AnswersStop NoMemory status text = ⊥
AnswersStop (Faulted file) status text = (status ≡ ReadFault) × (text ≡ refusal_line file (codes "ReadFault"))
AnswersStop (Refused file why) status text = (status ≡ refusal_status file) × (text ≡ refusal_line file why.items)

-- work that is done has a status of its own kind: no fault and no refusal
pub record IsWork {W : Type 0} (finishes : W → Status → List ℕ → Type 0) : Type 0 where
  pub status : (work : W) (status : Status) (text : List ℕ) → finishes work status text → is_work_status status ≡ true
