-- Marks of the modules that one instances.
use Rattle.std.specs.Prelude.{◌≡◌, ℕ, Bool, false, not, ◌||◌, List, length, filter, slice_index_or, nat_eq}
use Rattle.std.specs.List.{list_any, range_with_len}
use Rattle.bs_flat_meaning.specs.Rings.{is_instanced}

-- marks after those before and those of some numbers
pub record Marks (old new : List Bool) (modules : List ℕ) : Type 0 where
  pub wide : length new ≡ length old
  pub each : (k : ℕ) → slice_index_or new k false ≡ (slice_index_or old k false || list_any (nat_eq k) modules)

-- each module has the mark whether one of the list instances it
pub record AreInstanced (below : List (List ℕ)) (marks : List Bool) : Type 0 where
  pub wide : length marks ≡ length below
  pub each : (k : ℕ) → slice_index_or marks k false ≡ is_instanced below k

-- the numbers without a mark
abbrev pub unmarked : List Bool → List ℕ
unmarked marks = filter (λ k. not (slice_index_or marks k false)) (range_with_len 0 (length marks))
