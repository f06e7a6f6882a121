-- Items by the flip-flops that they name.
use Rattle.std.specs.Prelude.{ℕ, ◌<◌, List, All}

-- the items name flip-flops below a width
pub record AreWithin (width : ℕ) (items : List (List ℕ)) : Type 0 where
  pub is : All (λ item. All (λ flop. flop < width) item) items
