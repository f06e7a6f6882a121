-- Places of the trail that are passed over.
use Rattle.std.specs.Prelude.{◌≡◌, ◌≢◌, ℕ, ◌<◌, ◌≤◌, List, [], length, Some, slice_get}
use Rattle.bs_clause.specs.Literal.{negation}
use Rattle.bs_watch.specs.declared.lists.Watcher.{Watcher}
use Rattle.bs_watch.specs.Places.{Place}
use Rattle.bs_watch.specs.Lists.{row}

-- no clause watches a literal that is false by the places from one on to before another, and one does by that one, if there is
-- such a place
pub record ArePassed (lists : List (List Watcher)) (places : List Place) (start past : ℕ) : Type 0 where
  pub further : start ≤ past
  pub within : past ≤ length places
  pub unwatched : (k : ℕ) (p : Place) → start ≤ k → k < past → slice_get places k ≡ Some p → row lists (negation p.literal) ≡ []
  pub watched : (p : Place) → slice_get places past ≡ Some p → row lists (negation p.literal) ≢ []
