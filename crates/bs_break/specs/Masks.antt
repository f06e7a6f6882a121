-- Masks of runs: bit b of a mask for word w is the run of lane 64w + b.
use Rattle.std.specs.Prelude.{◌≡◌, ℕ, ◌<◌, ◌+◌, ◌*◌, ◌==◌, Bool, false, ◌&&◌, List, slice_index_or}
use Rattle.std.specs.Bool.{beq}
use Rattle.std.specs.Int.{bit_at}
use Rattle.std.specs.List.{list_all, list_any}

-- whether a mask has a run
abbrev pub has : ℕ → ℕ → Bool
has mask b = bit_at mask b == 1

-- whether a run of one word of the planes, each of which has so many words, shows the bits of a state at some places
abbrev pub shows : ℕ → List ℕ → ℕ → ℕ → List ℕ → List Bool → Bool
shows wide planes word b places s =
    list_all (λ place. beq (has (slice_index_or planes (place * wide + word) 0) b) (slice_index_or s place false)) places

-- the runs of the mask at which the word shows the bit
pub record IsCut (mask word : ℕ) (bit : Bool) (result : ℕ) : Type 0 where
  pub each : (b : ℕ) → b < 64 → has result b ≡ (has mask b && beq (has word b) bit)

-- the runs of the mask that show the bits of a state at some places
pub record Agrees (wide : ℕ) (planes : List ℕ) (word : ℕ) (places : List ℕ) (s : List Bool) (mask result : ℕ) : Type 0 where
  pub each : (b : ℕ) → b < 64 → has result b ≡ (has mask b && shows wide planes word b places s)

-- the runs of the mask that show the bits of one of the states at some places
pub record IsUnion (wide : ℕ) (planes : List ℕ) (word : ℕ) (places : List ℕ) (states : List (List Bool)) (mask result : ℕ) : Type 0 where
  pub each : (b : ℕ) → b < 64 → has result b ≡ (has mask b && list_any (shows wide planes word b places) states)
