-- Planes: one bit of many runs in a few words, and a run's bits in all of them.
use Rattle.std.specs.Prelude.{◌≡◌, ℕ, ◌<◌, ◌+◌, ◌*◌, ◌≤◌, nat_lt, Bool, ◌&&◌, List, length, map, slice_index_or}
use Rattle.std.specs.List.{range_with_len}
use Rattle.bs_stim.specs.Packing.{bit_in}

-- some planes, each of so many words, one behind another
pub record PlaneTable : Type 0 where
  pub wide : ℕ
  pub words : List ℕ

-- where a run's bit of a plane stands: lanes are counted from 0, so lane r is run r + 1
abbrev pub bit_place : ℕ → ℕ → ℕ → ℕ
bit_place wide plane r = (plane * wide) * 64 + r

-- the bits of one lane in the first planes
abbrev pub lane : ℕ → ℕ → List ℕ → ℕ → List Bool
lane wide count words r = map (λ plane. bit_in words (bit_place wide plane r)) (range_with_len 0 count)

-- a plane of so many words, and the bit that it has in each lane
pub record IsPlane (wide : ℕ) (plane : List ℕ) (bit : ℕ → Bool) : Type 0 where
  pub long : length plane ≡ wide
  pub each : (r : ℕ) → r < 64 * wide → bit_in plane r ≡ bit r

-- a plane for 256 runs that has the bits of a plane of so many words, and zeros for the runs beyond them
abbrev pub IsWidened : ℕ → List ℕ → (ℕ → Bool) → Type 0
IsWidened wide plane bit = IsPlane 4 plane (λ r. nat_lt r (64 * wide) && bit r)

-- four words: some words from a place on, and zeros behind them
pub record IsPadded (words : List ℕ) (start count : ℕ) (all : List ℕ) : Type 0 where
  pub long : length all ≡ 4
  pub copied : (k : ℕ) → k < count → slice_index_or all k 0 ≡ slice_index_or words (start + k) 0
  pub zeros : (k : ℕ) → count ≤ k → slice_index_or all k 0 ≡ 0
