-- The fetches that a plan asks for, one after the other, up to where it ends.
use Rattle.std.specs.Prelude.{◌≡◌, ℕ, List, [], ◌∷◌, codes, Option, Some, None, IfSome, Result, Ok, Err, Vec}
use Rattle.std.specs.declared.alloc.Global.{Global}
use Rattle.bs_outside.specs.Calls.{FetchCall}
use Rattle.bs_outside.specs.declared.shelf.Fetch.{Fetch}
use Rattle.bs_outside.specs.declared.shelf.Fetch.TheVariants as F
use Rattle.bs_outside.specs.declared.status.Status.{Status}
use Rattle.bs_outside.specs.declared.file_fetch.JobFault.{JobFault}
use Rattle.bs_outside.specs.declared.file_fetch.JobFault.TheVariants.{NoMemory, Faulted, Refused}
use Rattle.bs_outside.specs.PlanFiles.{limit_of}
use Rattle.bs_outside.specs.Answers.{Answers, RefusesWords}
use Rattle.bs_outside.specs.Plan.{Wanted, Reason, exactly, Says, Plan, fetch, refuse, end, PlanOutcome, ready, refused, faulted}

-- the fetch is of this file, with its limit
pub record AsksFor (w : Wanted) (call : FetchCall) : Type 0 where
  pub name : call.name ≡ w.name
  pub limit : call.limit ≡ limit_of w.file

-- after a file that came the plan goes on, and any other answer ends it; no outcome stands for out of memory
abbrev pub AfterFetch : {R V : Type 0} → Wanted → Fetch → List FetchCall → Option (PlanOutcome R V) → (goes_on : Type 0) → Type 0
AfterFetch w F.Done calls outcome goes_on = goes_on
AfterFetch w F.TooLong calls outcome goes_on = (calls ≡ []) × IfSome outcome (λ o. o ≡ refused w.file (exactly (codes "TooLong")))
AfterFetch w F.Failed calls outcome goes_on = (calls ≡ []) × IfSome outcome (λ o. o ≡ faulted w.file)
AfterFetch w F.NoMemory calls outcome goes_on = (calls ≡ []) × (outcome ≡ None)

abbrev pub FromFetch : {R V : Type 0} → Wanted → List FetchCall → Option (PlanOutcome R V) → (List ℕ → List FetchCall → Type 0) → Type 0
FromFetch w [] outcome go_on = outcome ≡ None
FromFetch w (call ∷ calls) outcome go_on = AsksFor w call × AfterFetch w call.answer calls outcome (go_on call.bytes calls)

-- These are the fetches along the plan up to this end of it, or, where there is none since memory ran out, the first of them.
abbrev pub Along : {R V : Type 0} → Plan R V → List FetchCall → Option (PlanOutcome R V) → Type 0
Along (end v) calls outcome = (calls ≡ []) × IfSome outcome (λ o. o ≡ ready v)
Along (refuse file why) calls outcome = (calls ≡ []) × IfSome outcome (λ o. o ≡ refused file why)
Along (fetch w next) calls outcome = FromFetch w calls outcome (λ bytes rest. Along (next bytes) rest outcome)

-- the one fetch of a file, by what was made of its answer
abbrev pub CallTo : Wanted → FetchCall → Result (Vec ℕ Global) JobFault → Type 0
CallTo w call (Ok bytes) = AsksFor w call × (call.answer ≡ F.Done) × (call.bytes ≡ bytes.items)
CallTo w call (Err NoMemory) = AsksFor w call
CallTo w call (Err (Faulted other)) = AsksFor w call × (call.answer ≡ F.Failed)
CallTo w call (Err (Refused other why)) = AsksFor w call × (call.answer ≡ F.TooLong)

-- the fetches go along the plan to this result
abbrev pub GoesTo : {R T V : Type 0} → (R → List ℕ → Type 0) → Plan R V → (view : T → V) → List FetchCall → Result T JobFault → Type 0
GoesTo allows plan view calls (Ok v) = Along plan calls (Some (ready (view v)))
GoesTo allows plan view calls (Err NoMemory) = Along plan calls None
GoesTo allows plan view calls (Err (Faulted file)) = Along plan calls (Some (faulted file))
GoesTo {R = R} allows plan view calls (Err (Refused file why)) =
    (reason : Reason R) × Says allows reason why.items × Along plan calls (Some (refused file reason))

-- the fetches go along the plan to an end that calls for this status and text
pub record AsksTo {R W : Type 0} (allows : R → List ℕ → Type 0) (finishes : W → Status → List ℕ → Type 0) (plan : Plan R W) (calls : List FetchCall)
    (status : Status) (text : List ℕ) : Type 0 where
  pub outcome : PlanOutcome R W
  pub along : Along plan calls (Some outcome)
  pub answers : Answers allows finishes outcome status text

-- the same of words: those that are no job ask for nothing
abbrev pub AsksWhole : {R W : Type 0} → (R → List ℕ → Type 0) → (W → Status → List ℕ → Type 0) → Option (Plan R W) → List FetchCall → Status → List ℕ → Type 0
AsksWhole allows finishes None calls status text = (calls ≡ []) × RefusesWords status text
AsksWhole allows finishes (Some plan) calls status text = AsksTo allows finishes plan calls status text

-- and where memory ran out
abbrev pub AsksShort : {R W : Type 0} → Option (Plan R W) → List FetchCall → Type 0
AsksShort None calls = calls ≡ []
AsksShort (Some plan) calls = Along plan calls None
