-- Ids in ascending order.
use Rattle.std.specs.Prelude.{◌≡◌, ℕ, ◌<◌, ◌==◌, Bool, List, Some, slice_get}
use Rattle.std.specs.List.{list_any}

pub record Rises (ids : List ℕ) : Type 0 where
  pub below : (i j a b : ℕ) → i < j → slice_get ids i ≡ Some a → slice_get ids j ≡ Some b → a < b

abbrev pub is_among : List ℕ → ℕ → Bool
is_among ids id = list_any (λ d. id == d) ids
