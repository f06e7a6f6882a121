-- The state that some inputs lead to.
use Rattle.std.specs.Prelude.{◌≡◌, ℕ, Bool, List, Some, slice_get}
use Rattle.bs_scan.specs.declared.seen.Seen.{Seen}
use Rattle.bs_scan.specs.Seen.{Shows}

-- of the states the one so many behind the first shows p
pub record EndsIn (states : List (List Bool)) (cycles : ℕ) (p : Seen) : Type 0 where
  pub last : List Bool
  pub there : slice_get states cycles ≡ Some last
  pub shown : Shows p last
