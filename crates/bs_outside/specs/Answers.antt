-- The status and the text that the words of a call want, by how the plan of their job ends.
use Rattle.std.specs.Prelude.{◌≡◌, ℕ, List, codes, Option, Some, None, IfSome}
use Rattle.bs_outside.specs.declared.status.Status.{Status}
use Rattle.bs_outside.specs.declared.status.Status.TheVariants.{Words, ReadFault}
use Rattle.bs_outside.specs.PlanFiles.{refusal_status, refusal_line}
use Rattle.bs_outside.specs.Plan.{Tells, Counts, Says, Plan, PlanOutcome, ready, refused, faulted, Ends, told_end}

-- the status and whole text that an outcome calls for, where `finishes` says them of work that is done
abbrev pub Answers : {R W : Type 0} → (R → List ℕ → Type 0) → (W → Status → List ℕ → Type 0) → PlanOutcome R W → Status → List ℕ → Type 0
Answers allows finishes (ready work) status text = finishes work status text
Answers allows finishes (refused file reason) status text =
    (status ≡ refusal_status file) × ((why : List ℕ) × Says allows reason why × (text ≡ refusal_line file why))
Answers allows finishes (faulted file) status text = (status ≡ ReadFault) × (text ≡ refusal_line file (codes "ReadFault"))

-- the answer to words that are no job
abbrev pub RefusesWords : Status → List ℕ → Type 0
RefusesWords status text = (status ≡ Words) × (text ≡ codes "refused words\n")

-- the plan ended in some way that agrees with the shelf, and calls for this
pub record Serves {R W : Type 0} (allows : R → List ℕ → Type 0) (finishes : W → Status → List ℕ → Type 0) (told : Tells) (before now : Counts)
    (plan : Plan R W) (status : Status) (text : List ℕ) : Type 0 where
  pub outcome : PlanOutcome R W
  pub ends : Ends told before now plan outcome
  pub answers : Answers allows finishes outcome status text

-- the words, which have this plan if they are a job, call for this
abbrev pub CallsFor : {R W : Type 0} → (R → List ℕ → Type 0) → (W → Status → List ℕ → Type 0) → Tells → (before now : Counts) → Option (Plan R W) →
    Status → List ℕ → Type 0
CallsFor allows finishes told before now None status text = RefusesWords status text
CallsFor allows finishes told before now (Some plan) status text = Serves allows finishes told before now plan status text

-- the words call for this by what the shelf tells, where it tells each file that the plan comes to
abbrev pub CallsByTold : {R W : Type 0} → (R → List ℕ → Type 0) → (W → Status → List ℕ → Type 0) → Tells → Option (Plan R W) → Status → List ℕ → Type 0
CallsByTold allows finishes told None status text = RefusesWords status text
CallsByTold allows finishes told (Some plan) status text = IfSome (told_end told plan) (λ outcome. Answers allows finishes outcome status text)
