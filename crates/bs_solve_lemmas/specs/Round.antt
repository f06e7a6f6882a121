-- A search between two rounds: a trail that is sound, and so many conflicts behind it.
use Rattle.std.specs.Prelude.{◌≡◌, ℕ, ◌-◌, ◌<◌, ◌≤◌, Bool, true, List, take, drop, length, All}
use Rattle.bs_log.specs.History.{phase_of}
use Rattle.bs_log.specs.Refusal.{has_distinct_variables, in_solve}
use Rattle.bs_solve_lemmas.specs.Place.{LoggedPlace}
use Rattle.bs_watch.specs.Trail.{IsTrueOn, IsQuiet}
use Rattle.bs_solve_lemmas.specs.Bound.{number}
use Rattle.bs_solve_lemmas.specs.Places.{logged_literals, AreWarranted}
use Rattle.bs_clause.specs.Range.{HasVariables}
use Rattle.bs_solve_lemmas.specs.Learning.{digits}
use Rattle.bs_solve_lemmas.specs.ProofLog.{ProofLog, standing}
use Rattle.bs_solve_lemmas.specs.Search.{assumed}
use Rattle.bs_solve_lemmas.specs.Ending.{HasLemmas}

-- The first level has `base` places, on which the assumptions stand and on which no clause that stood at first was false
-- or unit. The conflicts are at most the number that the further places spell, an implied one as the digit 1. After a quiet
-- propagation none that stands is.
pub record InSearch (old : ProofLog) (vars base conflicts limit : ℕ) (proof : ProofLog) (places : List LoggedPlace) (quiet : Bool) : Type 0 where
  pub logged : HasLemmas old proof conflicts
  pub under : conflicts < limit
  pub sound : AreWarranted (standing proof) base (assumed proof) places
  pub given : All (IsTrueOn (logged_literals (take base places))) (assumed proof)
  pub start : IsQuiet (logged_literals (take base places)) (standing old)
  pub counted : conflicts ≤ number (vars - base) (drop base (digits places))
  pub low : base ≤ length places
  pub range : All (HasVariables vars) (standing proof)
  pub assumed_range : HasVariables vars (assumed proof)
  pub distinct : All (λ c. has_distinct_variables c ≡ true) (standing proof)
  pub phase : in_solve (phase_of proof.history) ≡ true
  pub ended : quiet ≡ true → IsQuiet (logged_literals places) (standing proof)
