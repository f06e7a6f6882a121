-- Counters of 64 lanes: word j has binary digit j of all of them.
use Rattle.std.specs.Prelude.{◌≡◌, ℕ, ◌<◌, ◌+◌, ◌*◌, ◌^◌, Bool, true, false, not, List, [], ◌∷◌, length}
use Rattle.std.specs.Bool.{beq}
use Rattle.bs_break.specs.Masks.{has}

abbrev pub one_if : Bool → ℕ
one_if true = 1
one_if false = 0

-- the number with these digits in a lane, the lowest first
abbrev pub lane_count : List ℕ → ℕ → ℕ
lane_count [] lane = 0
lane_count (word ∷ words) lane = one_if (has word lane) + 2 * lane_count words lane

-- each counter is greater by the lane's bit, where it has room for one more
pub record Adds (old : List ℕ) (word : ℕ) (new : List ℕ) : Type 0 where
  pub size : length new ≡ length old
  pub each : (b : ℕ) → b < 64 → lane_count old b + 1 < 2 ^ length old → lane_count new b ≡ lane_count old b + one_if (has word b)

-- the mask has the lanes of a word that show another bit
pub record IsOther (word : ℕ) (bit : Bool) (mask : ℕ) : Type 0 where
  pub each : (b : ℕ) → b < 64 → has mask b ≡ not (beq (has word b) bit)

-- how many of four words have a lane
abbrev pub ones : (a b c d lane : ℕ) → ℕ
ones a b c d lane = one_if (has a lane) + (one_if (has b lane) + (one_if (has c lane) + one_if (has d lane)))

-- each counter is greater by the lane's bits of four words, where it has room for four more
pub record AddsFour (old : List ℕ) (a b c d : ℕ) (new : List ℕ) : Type 0 where
  pub size : length new ≡ length old
  pub each : (l : ℕ) → l < 64 → lane_count old l + 4 < 2 ^ length old → lane_count new l ≡ lane_count old l + ones a b c d l

-- each counter is greater by four where a word has the lane, where it has room for that
pub record CarriesOn (old : List ℕ) (word : ℕ) (new : List ℕ) : Type 0 where
  pub size : length new ≡ length old
  pub each : (l : ℕ) → l < 64 → lane_count old l + 4 * one_if (has word l) < 2 ^ length old →
      lane_count new l ≡ lane_count old l + 4 * one_if (has word l)

-- in each lane the bits of three words make two digits
pub record IsFull (a b c low high : ℕ) : Type 0 where
  pub each : (l : ℕ) → one_if (has low l) + 2 * one_if (has high l) ≡ one_if (has a l) + (one_if (has b l) + one_if (has c l))
