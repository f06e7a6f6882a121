-- What the program's walk along a plan has done.
use Rattle.std.specs.Prelude.{◌≡◌, ◌≤◌, ℕ, List, [], codes, Result, Ok, Err, MatchResult, Vec}
use Rattle.std.specs.declared.alloc.Global.{Global}
use Rattle.bs_outside.specs.Calls.{FetchCall, InTurn}
use Rattle.bs_outside.specs.Faults.{Rose}
use Rattle.bs_outside.specs.declared.file.File.{File}
use Rattle.bs_outside.specs.declared.file_fetch.JobFault.{JobFault}
use Rattle.bs_outside.specs.declared.file_fetch.JobFault.TheVariants.{NoMemory, Faulted, Refused}
use Rattle.bs_outside.specs.declared.file_fetch.Refusal.{Refusal}
use Rattle.bs_outside.specs.declared.file_fetch.Refusal.TheVariants as Q
use Rattle.bs_outside.specs.Plan.{Tells, Counts, Wanted, Comes, IsLong, Reason, Says, Plan, ready, refused, faulted, Ends}
use Rattle.bs_outside.specs.Asking.{CallTo, GoesTo}

-- the shelf tells and counts as before
pub record IsSame (told_before told_now : Tells) (before now : Counts) : Type 0 where
  pub told : (name : List ℕ) → told_now name ≡ told_before name
  pub counts : (name : List ℕ) → now name ≡ before name

-- the shelf tells as before, and no count fell
pub record IsLater (told_before told_now : Tells) (before now : Counts) : Type 0 where
  pub told : (name : List ℕ) → told_now name ≡ told_before name
  pub counts : (name : List ℕ) → before name ≤ now name

-- the result refuses this file as too long, unless memory ran out
abbrev pub IsTooLong : {T : Type 0} → File → Result T JobFault → Type 0
IsTooLong file (Ok v) = ⊥
IsTooLong file (Err NoMemory) = Unit {0}
IsTooLong file (Err (Faulted other)) = ⊥
IsTooLong file (Err (Refused other why)) = (other ≡ file) × (why.items ≡ codes "TooLong")

abbrev pub ComesTo : (told_before told_now : Tells) (before now : Counts) → Wanted → Result (Vec ℕ Global) JobFault → Type 0
ComesTo told_before told_now before now w (Ok bytes) = IsSame told_before told_now before now × Comes told_before w bytes.items
ComesTo told_before told_now before now w (Err NoMemory) = IsSame told_before told_now before now
ComesTo told_before told_now before now w (Err (Faulted other)) = IsLater told_before told_now before now × Rose (before w.name) (now w.name) × (other ≡ w.file)
ComesTo told_before told_now before now w (Err (Refused other why)) =
    IsSame told_before told_now before now × IsLong told_before w × (other ≡ w.file) × (why.items ≡ codes "TooLong")

-- the file was fetched, in one call: its bytes came, it failed, or it is too long, unless memory ran out
pub record FetchedTo {S : Type 0} (held : S → Tells) (faults : S → Counts) (leads : S → FetchCall → S → Type 0) (before now : S) (file : File)
    (name : List ℕ) (result : Result (Vec ℕ Global) JobFault) : Type 0 where
  pub is : ComesTo (held before) (held now) (faults before) (faults now) (record { file = file; name = name }) result
  pub call : FetchCall
  pub asked : leads before call now
  pub answer : CallTo (record { file = file; name = name }) call result

abbrev pub WalksTo : {R T V : Type 0} → (R → List ℕ → Type 0) →
    (told_before told_now : Tells) (before now : Counts) (plan : Plan R V) (view : T → V) → Result T JobFault → Type 0
WalksTo allows told_before told_now before now plan view (Ok v) = IsSame told_before told_now before now × Ends told_before before now plan (ready (view v))
WalksTo allows told_before told_now before now plan view (Err NoMemory) = IsSame told_before told_now before now
WalksTo allows told_before told_now before now plan view (Err (Faulted file)) =
    IsLater told_before told_now before now × Ends told_before before now plan (faulted file)
WalksTo {R = R} allows told_before told_now before now plan view (Err (Refused file why)) =
    IsSame told_before told_now before now × ((reason : Reason R) × Says allows reason why.items × Ends told_before before now plan (refused file reason))

-- the plan was followed to this end, or memory ran out; and the shelf was asked for the plan's files alone, each once
pub record Walks {S R T V : Type 0} (allows : R → List ℕ → Type 0) (held : S → Tells) (faults : S → Counts) (leads : S → FetchCall → S → Type 0)
    (before now : S) (plan : Plan R V) (view : T → V) (result : Result T JobFault) : Type 0 where
  pub is : WalksTo allows (held before) (held now) (faults before) (faults now) plan view result
  pub fetches : List FetchCall
  pub asked : InTurn leads before fetches now
  pub along : GoesTo allows plan view fetches result

-- a plan over the program's own texts, which asks no shelf: so it goes with any
pub record WalksAlone {R T V : Type 0} (allows : R → List ℕ → Type 0) (plan : Plan R V) (view : T → V) (result : Result T JobFault) : Type 0 where
  pub is : (told : Tells) (before : Counts) → WalksTo allows told told before before plan view result
  pub along : GoesTo allows plan view [] result

-- a reader's answer is the one wanted, value or reason, unless memory ran out
abbrev pub Reads : {R T V : Type 0} → (R → List ℕ → Type 0) → (view : T → V) → Result V (Reason R) → Result T Refusal → Type 0
Reads allows view wanted (Ok v) = wanted ≡ Ok (view v)
Reads allows view wanted (Err Q.NoMemory) = Unit {0}
Reads allows view wanted (Err (Q.Why why)) = MatchResult wanted (λ _. ⊥) (λ reason. Says allows reason why.items)

-- a file that a reader refuses stops the job
abbrev pub stop_of : Refusal → File → JobFault
stop_of Q.NoMemory file = NoMemory
stop_of (Q.Why why) file = Refused file why

-- what a reader's answer is to the job
abbrev pub settled : {T : Type 0} → File → Result T Refusal → Result T JobFault
settled file (Ok v) = Ok v
settled file (Err refusal) = Err (stop_of refusal file)
