-- A plan of a job: which file comes next, after what the earlier ones held, and where it ends.
use Rattle.std.specs.Prelude.{◌≡◌, ◌⊎◌, ◌<◌, ◌≤◌, ℕ, List, length, codes, nat_lt, if◌then◌else◌, Option, Some, None, IfSome, IsSome, Result, Ok, Err}
use Rattle.bs_outside.specs.Faults.{Rose}
use Rattle.bs_outside.specs.declared.file.File.{File}
use Rattle.bs_outside.specs.PlanFiles.{limit_of}

-- what a shelf tells of each name, and its counts of faults
abbrev pub Tells : Type 0
Tells = List ℕ → Option (List ℕ)

abbrev pub Counts : Type 0
Counts = List ℕ → ℕ

-- a file of a job
pub record Wanted : Type 0 where
  pub file : File
  pub name : List ℕ

-- why a file is refused: these words behind its name, or any words that go with a case of which several are right
pub data Reason (R : Type 0) : Type 0 where
  exactly : List ℕ → Reason R
  any_of : R → Reason R

-- these words are the reason's, where `allows` says which go with a case
abbrev pub Says : {R : Type 0} → (R → List ℕ → Type 0) → Reason R → List ℕ → Type 0
Says allows (exactly these) why = why ≡ these
Says allows (any_of case) why = allows case why

-- a plan whose end is a value
pub data Plan (R V : Type 0) : Type 0 where
  fetch : Wanted → (List ℕ → Plan R V) → Plan R V
  refuse : File → Reason R → Plan R V
  end : V → Plan R V

-- one plan, and then another that goes on from its value
infixl 10 ◌>>=◌
abbrev pub ◌>>=◌ : {R A B : Type 0} → Plan R A → (A → Plan R B) → Plan R B
fetch w next >>= f = fetch w (λ bytes. next bytes >>= f)
refuse file why >>= f = refuse file why
end v >>= f = f v

-- the bytes of a file
abbrev pub fetched : {R : Type 0} → File → List ℕ → Plan R (List ℕ)
fetched file name = fetch record { file = file; name = name } (λ bytes. end bytes)

-- a text of the program's own in place of one file of a plan, where there is one
abbrev pub given_next : {R V : Type 0} → Wanted → Option (List ℕ) → (List ℕ → Plan R V) → Plan R V
given_next w None next = fetch w next
given_next w (Some bytes) next = if nat_lt (limit_of w.file) (length bytes) then refuse w.file (exactly (codes "TooLong")) else next bytes

-- a plan whose files are texts of the program's own, as far as these names have one
abbrev pub with_texts : {R V : Type 0} → Tells → Plan R V → Plan R V
with_texts texts (end v) = end v
with_texts texts (refuse file why) = refuse file why
with_texts texts (fetch w next) = given_next w (texts w.name) (λ bytes. with_texts texts (next bytes))

-- each file that the plan can come to is told
abbrev pub AllTold : {R V : Type 0} → Tells → Plan R V → Type 0
AllTold told (end v) = Unit {0}
AllTold told (refuse file why) = Unit {0}
AllTold told (fetch w next) = IsSome (told w.name) × ((bytes : List ℕ) → AllTold told (next bytes))

-- what a reader makes of the bytes: a value, or why they are refused
abbrev pub read_as : {R V : Type 0} → File → Result V (Reason R) → Plan R V
read_as file (Ok v) = end v
read_as file (Err why) = refuse file why

-- how a plan may end
pub data PlanOutcome (R V : Type 0) : Type 0 where
  ready : V → PlanOutcome R V
  refused : File → Reason R → PlanOutcome R V
  faulted : File → PlanOutcome R V

-- these bytes came of the file: they are within its limit, and those that the shelf tells
pub record Comes (told : Tells) (w : Wanted) (bytes : List ℕ) : Type 0 where
  pub within : length bytes ≤ limit_of w.file
  pub shown : IfSome (told w.name) (λ all. all ≡ bytes)

-- the file is longer than its limit, as far as the shelf tells
abbrev pub IsLong : Tells → Wanted → Type 0
IsLong told w = IfSome (told w.name) (λ all. limit_of w.file < length all)

-- The plan may end so, where each file comes, is too long or fails: what comes is what the shelf tells, as far as it tells,
-- and where it fails its count rose or stands at the greatest `u64`.
abbrev pub Ends : {R V : Type 0} → Tells → (before now : Counts) → Plan R V → PlanOutcome R V → Type 0
Ends told before now (end v) outcome = outcome ≡ ready v
Ends told before now (refuse file why) outcome = outcome ≡ refused file why
Ends told before now (fetch w next) outcome =
    ((bytes : List ℕ) × Comes told w bytes × Ends told before now (next bytes) outcome)
    ⊎ ((IsLong told w × (outcome ≡ refused w.file (exactly (codes "TooLong"))))
    ⊎ (Rose (before w.name) (now w.name) × (outcome ≡ faulted w.file)))

-- how a file goes on by what the shelf tells
abbrev pub told_next : {R V : Type 0} → Wanted → Option (List ℕ) → (List ℕ → Option (PlanOutcome R V)) → Option (PlanOutcome R V)
told_next w None go_on = None
told_next w (Some bytes) go_on = if nat_lt (limit_of w.file) (length bytes) then Some (refused w.file (exactly (codes "TooLong"))) else go_on bytes

-- how the plan ends by what the shelf tells, where it tells each file that the plan comes to
abbrev pub told_end : {R V : Type 0} → Tells → Plan R V → Option (PlanOutcome R V)
told_end told (end v) = Some (ready v)
told_end told (refuse file why) = Some (refused file why)
told_end told (fetch w next) = told_next w (told w.name) (λ bytes. told_end told (next bytes))

-- in some way that agrees with the shelf, the plan comes to this file, and refuses none before it
abbrev pub Reaches : {R V : Type 0} → Tells → Plan R V → Wanted → Type 0
Reaches told (end v) wanted = ⊥
Reaches told (refuse file why) wanted = ⊥
Reaches told (fetch w next) wanted = (w ≡ wanted) ⊎ ((bytes : List ℕ) × Comes told w bytes × Reaches told (next bytes) wanted)
