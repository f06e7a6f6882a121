-- What a program means: all that is its own in the contract of a call.
use Rattle.std.specs.Prelude.{ℕ, List, Option, option_map, Result}
use Rattle.bs_bits.specs.declared.memory.NoMemory.{NoMemory}
use Rattle.bs_outside.specs.Calls.{FetchCall}
use Rattle.bs_outside.specs.Plan.{Tells, Counts, Plan}
use Rattle.bs_outside.specs.declared.status.Status.{Status}
use Rattle.bs_call.specs.Prepared.{PreparedNoted}
use Rattle.bs_call.specs.declared.note.Note.{Note}
use Rattle.bs_call.specs.declared.note.Response.{Response}

pub record Meaning (J C W : Type 0) : Type 1 where
  -- what words ask for, where they ask something, and the plan of that: the files that it comes to, and its work
  pub asked : List (List ℕ) → Option J
  pub plan_of : J → Plan C W
  -- which words go with a case of a refusal, and which status and text with work that is done
  pub allows : C → List ℕ → Type 0
  pub finishes : W → Status → List ℕ → Type 0
  -- what is said to words that ask this, after these fetches, of an answer with this status and text
  pub speaks : List (List ℕ) → Option J → List FetchCall → Status → List ℕ → Note → Type 0
  -- the note where memory ran out, and the one on words that are no text
  pub memory : List ℕ
  pub unread : Note → Type 0
  -- what a netlist of several modules means, by which the plan and its work speak of a circuit
  pub design : Type 0

-- the plan of what words ask for, if they ask something
abbrev pub planned : {J C W : Type 0} → Meaning J C W → List (List ℕ) → Option (Plan C W)
planned p words = option_map p.plan_of (p.asked words)

-- what a shelf tells of itself: the bytes of a name, its counts of faults, and where a call leads
pub record Source (S : Type 0) : Type 1 where
  pub held : S → Tells
  pub faults : S → Counts
  pub leads : S → FetchCall → S → Type 0

abbrev pub source : {S : Type 0} → (S → Tells) → (S → Counts) → (S → FetchCall → S → Type 0) → Source S
source held faults leads = record { held = held; faults = faults; leads = leads }

-- what is to be answered and written for words, and what is to be said
abbrev pub PreparedFor : {S J C W : Type 0} → Meaning J C W → Source S → (before now : S) → List (List ℕ) → Result Response NoMemory → Type 0
PreparedFor p from before now words result =
    PreparedNoted p.allows p.finishes (p.speaks words (p.asked words)) from.held from.faults from.leads before now (planned p words) result
