-- The variables without a value, and those that wait in an order.
use Rattle.std.specs.Prelude.{◌≡◌, ℕ, ◌+◌, ◌*◌, ◌<◌, ◌≤◌, Bool, true, false, ◌||◌, List, length, slice_index_or}

-- whether the variable waits in the order
abbrev pub is_in : List Bool → ℕ → Bool
is_in order v = slice_index_or order v false

-- whether one of a variable's two literals is true, by their codes
abbrev pub is_assigned : List Bool → ℕ → Bool
is_assigned values v = slice_index_or values (2 * v) false || slice_index_or values (2 * v + 1) false

-- each variable without a value is in the order
pub record HoldsOpen (order values : List Bool) : Type 0 where
  pub each : (v : ℕ) → 1 ≤ v → v < length order → is_assigned values v ≡ false → is_in order v ≡ true

-- each variable before this one has a value
pub record AreAllAssigned (past : ℕ) (values : List Bool) : Type 0 where
  pub each : (v : ℕ) → 1 ≤ v → v < past → is_assigned values v ≡ true
