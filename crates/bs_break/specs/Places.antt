-- The places at which all states have one bit.
use Rattle.std.specs.Prelude.{◌≡◌, ℕ, ◌<◌, Bool, false, ◌&&◌, List, [], length, slice_index_or}
use Rattle.std.specs.Bool.{beq}
use Rattle.std.specs.List.{list_all}

-- whether all states have one bit at a place
abbrev pub is_shared : List (List Bool) → ℕ → Bool
is_shared states i = list_all (λ s. beq (slice_index_or s i false) (slice_index_or (slice_index_or states 0 []) i false)) states

-- a flag stays true where the two lists have one bit
pub record Narrows (old new first other : List Bool) : Type 0 where
  pub size : length new ≡ length old
  pub each : (i : ℕ) → i < length old →
      slice_index_or new i false ≡ (slice_index_or old i false && beq (slice_index_or other i false) (slice_index_or first i false))
