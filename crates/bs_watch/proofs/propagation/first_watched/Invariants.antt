use Rattle.std.proofs.Common.{◌≡◌, ℕ, ◌-◌, ◌<◌, ◌≤◌, [], Some, length}
use Rattle.std.specs.Prelude.{slice_get}
use Rattle.bs_clause.specs.Literal.{negation}
use Rattle.bs_watch.specs.Places.{Place}
use Rattle.bs_watch.specs.Lists.{row}
use Rattle.bs_watch.proofs.propagation.first_watched.Given as goal

abbrev pub invariant-places : goal.invariant-places
invariant-places l = record {
  further : l.start ≤ l.at;
  within : l.at ≤ length l.trail.places;
  unwatched : (k : ℕ) (p : Place) → l.start ≤ k → k < l.at → slice_get l.trail.places k ≡ Some p → row l.lists (negation p.literal) ≡ [];
}

abbrev pub decreases-places : goal.decreases-places
decreases-places l = length l.trail.places - l.at
