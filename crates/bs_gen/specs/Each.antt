-- A text made of the pieces of consecutive numbers.
use Rattle.std.specs.Prelude.{ℕ, List}
use Rattle.std.specs.List.{flat_map, range_with_len}

-- what f gives for the number a and those behind it, n of them, one after another
unfoldable pub each : (ℕ → List ℕ) → ℕ → ℕ → List ℕ
each f a n = flat_map f (range_with_len a n)
