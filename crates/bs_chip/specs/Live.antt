-- The runs that last to a cycle, a bit a run: bit b of word w is run 64w + b + 1.
use Rattle.std.specs.Prelude.{◌≡◌, ℕ, ◌<◌, ◌≤◌, ◌+◌, ◌*◌, nat_lt, nat_le, Bool, true, ◌&&◌, List, length}
use Rattle.bs_stim.specs.declared.limits.TheConstants.{MAX_RUNS}
use Rattle.bs_stim.specs.Packing.{bit_in}
use Rattle.bs_scan.specs.Moments.{Run, run_of}
use Rattle.bs_break.specs.Masks.{has}

-- whether a lane belongs to a run that lasts to a cycle; lanes are counted from 0, so lane r is run r + 1
abbrev pub lasts : List Run → ℕ → ℕ → Bool
lasts runs cycle lane = nat_lt lane (length runs) && nat_le cycle (length (run_of runs (lane + 1)))

-- runs, and a cycle
pub record Lasting : Type 0 where
  pub runs : List Run
  pub cycle : ℕ

-- the words have the lanes that last to a cycle, and no others
pub record AreLive (runs : List Run) (cycle : ℕ) (words : List ℕ) : Type 0 where
  pub each : (lane : ℕ) → bit_in words lane ≡ lasts runs cycle lane

-- the mask has the lanes of one word that last to a cycle, and no others
pub record IsLiveWord (runs : List Run) (cycle word mask : ℕ) : Type 0 where
  pub each : (b : ℕ) → b < 64 → has mask b ≡ lasts runs cycle (word * 64 + b)

-- what lasts to a cycle lasts to another one
pub record LastTo (runs : List Run) (cycle until : ℕ) : Type 0 where
  pub each : (lane : ℕ) → lasts runs cycle lane ≡ true → until ≤ length (run_of runs (lane + 1))

-- the words of a cycle stay right until another one
pub record IsLive (runs : List Run) (words : List ℕ) (cycle until : ℕ) : Type 0 where
  pub size : length words ≡ 4
  pub few : length runs ≤ MAX_RUNS
  pub live : AreLive runs cycle words
  pub last : LastTo runs cycle until
