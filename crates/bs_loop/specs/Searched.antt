-- Where the steps of a backtrace hit, and how far the recorded moments were searched for each.
use Rattle.std.specs.Prelude.{◌≡◌, ◌≢◌, ◌⊎◌, ℕ, ◌-◌, Bool, true, false, List, [], ◌∷◌, ◌++◌, length, Option, Some, None, option_map, slice_get}
use Rattle.bs_scan.specs.Crash.{Recording}
use Rattle.bs_scan.specs.Moments.{first_moment, state_of}
use Rattle.bs_scan.specs.Signature.{predecessors}
use Rattle.bs_report.specs.declared.report.HitLine.{HitLine}
use Rattle.bs_report.specs.declared.report.ListEnd.TheVariants.{Conflicts}
use Rattle.bs_report.specs.declared.report.Step.{Step}
use Rattle.bs_report.specs.Step.{stored_of}
use Rattle.bs_loop.specs.KnownCand.{IsCutFar, IsLeftOpen}
use Rattle.bs_loop.specs.declared.known.SearchExtent.{SearchExtent}
use Rattle.bs_loop.specs.declared.known.SearchExtent.TheVariants.{Whole, Limited, Unanswered}

-- the line of the first moment at which a run is in one of these states
abbrev pub hit_among : Recording → List (List Bool) → Option HitLine
hit_among r states =
    option_map (λ m. record { run = m.run; cycle = m.cycle; state = state_of r.circuit r.runs m }) (first_moment r.circuit r.runs states)

-- the predecessors that a step asks for
abbrev pub sought_by : Recording → Step → List (List Bool)
sought_by r step = predecessors r.circuit r.choice step.present (stored_of step)

-- A step whose search was whole, and whose list did not end with conflicts, hits the first moment of any run in a predecessor, of all
-- predecessors and not only of the listed ones; and where it has no hit, no recorded moment is in one. Where the search was cut, no moment
-- before one is, of which nothing is known. Its signature has the hash of the stored one. So have as many before it as a search may ask
-- about. Or else it stays unknown whether its state is a predecessor: the solve of that question spent its budget, which is b, or it cannot
-- be asked.
abbrev pub HitsBy : Recording → ℕ → Step → SearchExtent → Type 0
HitsBy r b step Whole = step.end ≢ Conflicts → step.hit ≡ hit_among r (sought_by r step)
HitsBy r b step (Limited m) = IsCutFar r (sought_by r step) step.stored m
HitsBy r b step (Unanswered m) = IsLeftOpen r step.present step.stored step.older b m

pub record HitsFirst (r : Recording) (b : ℕ) (step : Step) (reach : SearchExtent) : Type 0 where
  pub hit : HitsBy r b step reach

-- each step does, by how far was searched for it
pub record AreSearched (r : Recording) (b : ℕ) (steps : List Step) (reaches : List SearchExtent) : Type 0 where
  pub count : length reaches ≡ length steps
  pub each : (i : ℕ) (step : Step) (reach : SearchExtent) → slice_get steps i ≡ Some step → slice_get reaches i ≡ Some reach → HitsFirst r b step reach

-- they do, by what was searched for each
pub record WereSearched (r : Recording) (b : ℕ) (steps : List Step) : Type 0 where
  pub reaches : List SearchExtent
  pub are : AreSearched r b steps reaches

-- whether a search was cut
abbrev pub is_cut : SearchExtent → Bool
is_cut Whole = false
is_cut (Limited m) = true
is_cut (Unanswered m) = true

abbrev pub is_cut_at : Option SearchExtent → Bool
is_cut_at None = false
is_cut_at (Some reach) = is_cut reach

-- the same of the last of some searches; none is not cut
abbrev pub is_last_cut : List SearchExtent → Bool
is_last_cut reaches = is_cut_at (slice_get reaches (length reaches - 1))

-- the steps were searched, and the bit tells whether the search for the last one was cut
pub record TellsCut (r : Recording) (b : ℕ) (steps : List Step) (cut : Bool) : Type 0 where
  pub searched : WereSearched r b steps
  pub last : cut ≡ is_last_cut searched.reaches

-- one more step, and how far was searched for it
pub record IsOneSearched (r : Recording) (b : ℕ) (steps more : List Step) (reaches longer : List SearchExtent) : Type 0 where
  pub step : Step
  pub reach : SearchExtent
  pub made : more ≡ steps ++ step ∷ []
  pub noted : longer ≡ reaches ++ reach ∷ []
  pub hits : HitsFirst r b step reach

-- one more, or none
pub record IsTurnSearched (r : Recording) (b : ℕ) (steps more : List Step) (reaches longer : List SearchExtent) : Type 0 where
  pub either : ((more ≡ steps) × (longer ≡ reaches)) ⊎ IsOneSearched r b steps more reaches longer
