-- A wave under way: the moments that have an input.
use Rattle.std.specs.Prelude.{◌≡◌, ℕ, ◌<◌, Bool, List, [], length, slice_index_or}
use Rattle.bs_net.specs.Circuit.{Circuit}
use Rattle.bs_wave.specs.declared.value.Value.{Value}
use Rattle.bs_wave.specs.Wave.{IsSettledMoment}

-- so many moments, each with its state and input
pub record AreSettled (c : Circuit) (states inputs : List (List Bool)) (n : ℕ) (moments : List (List Value)) : Type 0 where
  pub count : length moments ≡ n
  pub settled : (i : ℕ) → i < n →
      IsSettledMoment c (slice_index_or states i []) (slice_index_or inputs i []) (slice_index_or moments i [])
