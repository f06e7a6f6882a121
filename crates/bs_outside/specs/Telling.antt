-- One walk, seen by the refusal line and by the note.
use Rattle.std.specs.Prelude.{ℕ, List, Result}
use Rattle.bs_outside.specs.Calls.{FetchCall, InTurn}
use Rattle.bs_outside.specs.Plan.{Tells, Counts, Plan}
use Rattle.bs_outside.specs.Walks.{WalksTo}
use Rattle.bs_outside.specs.Asking.{GoesTo}
use Rattle.bs_outside.specs.Diagnostic.{lined, note_seen}
use Rattle.bs_outside.specs.declared.diagnostic.WalkStop.{WalkStop}

-- The walk followed the plan in these fetches. `says` gives the lines that go with a cause of a refusal, and `notes` the notes: what
-- stopped the walk has a line and a note that go with it, on the very bytes that came.
pub record WalksDiagnosed {S R T V : Type 0} (says notes : R → List ℕ → Type 0) (held : S → Tells) (faults : S → Counts)
    (leads : S → FetchCall → S → Type 0) (before now : S) (plan : Plan R V) (view : T → V) (result : Result T WalkStop) : Type 0 where
  pub line : WalksTo says (held before) (held now) (faults before) (faults now) plan view (lined result)
  pub note : WalksTo notes (held before) (held now) (faults before) (faults now) plan view (note_seen result)
  pub fetches : List FetchCall
  pub asked : InTurn leads before fetches now
  pub line_along : GoesTo says plan view fetches (lined result)
  pub note_along : GoesTo notes plan view fetches (note_seen result)
