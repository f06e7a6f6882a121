-- Inputs in packed words, one behind another, without a gap between them.
use Rattle.std.specs.Prelude.{◌≡◌, ℕ, ◌<◌, ◌≤◌, ◌+◌, ◌*◌, ◌/◌, ◌%◌, ◌^◌, ◌==◌, Bool, false, List, length, map, slice_index_or}
use Rattle.std.specs.Int.{bit_at}
use Rattle.std.specs.List.{range_with_len}

-- the bit at a place: each word has 64, the lowest one first
abbrev pub bit_in : List ℕ → ℕ → Bool
bit_in words place = bit_at (slice_index_or words (place / 64) 0) (place % 64) == 1

-- so many bits from a place on
abbrev pub bits_in : List ℕ → ℕ → ℕ → List Bool
bits_in words start count = map (λ place. bit_in words (start + place)) (range_with_len 0 count)

-- so many inputs of a width
abbrev pub inputs_in : ℕ → ℕ → List ℕ → List (List Bool)
inputs_in width count words = map (λ cycle. bits_in words (cycle * width) width) (range_with_len 0 count)

-- the bit of a character `0` or `1`
abbrev pub is_one : ℕ → Bool
is_one character = character == 49

-- no bit from a place on is 1
pub record IsClear (start : ℕ) (words : List ℕ) : Type 0 where
  pub each : (place : ℕ) → start ≤ place → bit_in words place ≡ false

-- the words have room for the inputs, and no 1 behind them
pub record IsPacked (width count : ℕ) (words : List ℕ) : Type 0 where
  pub room : count * width ≤ 64 * length words
  pub small : count * width < 2 ^ 64
  pub clear : IsClear (count * width) words

-- the bit at a place is this one now, and no other has changed
pub record HasPut (at : ℕ) (bit : Bool) (old new : List ℕ) : Type 0 where
  pub size : length new ≡ length old
  pub here : bit_in new at ≡ bit
  pub others : (place : ℕ) → (place ≡ at → ⊥) → bit_in new place ≡ bit_in old place

-- from a place on, where no bit was 1, stand so many of the characters' bits
pub record HasWritten (start : ℕ) (characters : List ℕ) (count : ℕ) (old new : List ℕ) : Type 0 where
  pub size : length new ≡ length old
  pub before : (place : ℕ) → place < start → bit_in new place ≡ bit_in old place
  pub written : (k : ℕ) → k < count → bit_in new (start + k) ≡ is_one (slice_index_or characters k 0)
  pub behind : IsClear (start + count) new

-- inputs, and the number of bits of each
pub record Rows : Type 0 where
  pub width : ℕ
  pub rows : List (List Bool)
