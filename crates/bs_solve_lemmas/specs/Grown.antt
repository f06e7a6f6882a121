-- How propagation makes a trail longer.
use Rattle.std.specs.Prelude.{◌≡◌, ℕ, ◌≤◌, true, List, take, length, Some, Contains, slice_get}
use Rattle.bs_clause.specs.Literal.{Clause}
use Rattle.bs_solve_lemmas.specs.Place.{LoggedPlace}
use Rattle.bs_watch.specs.Trail.{Implies}
use Rattle.bs_solve_lemmas.specs.Places.{logged_literals}

-- a clause of the list implies the literal
pub record IsLoggedImplied (clauses : List Clause) (earlier : List LoggedPlace) (p : LoggedPlace) : Type 0 where
  pub is : p.implied ≡ true
  pub clause : Clause
  pub there : Contains clauses clause
  pub implies : Implies (logged_literals earlier) clause p.literal

-- the new trail begins with the old one, and each further literal is implied
pub record LoggedGrows (clauses : List Clause) (old new : List LoggedPlace) : Type 0 where
  pub longer : length old ≤ length new
  pub front : take (length old) new ≡ old
  pub implied : (k : ℕ) (p : LoggedPlace) → length old ≤ k → slice_get new k ≡ Some p → IsLoggedImplied clauses (take k new) p
