-- The runs whose lane of some planes has a signature.
use Rattle.std.specs.Prelude.{◌≡◌, ℕ, ◌<◌, ◌≤◌, ◌-◌, Bool, true, false, List, length}
use Rattle.bs_bits.specs.Bits.{bits_eq}
use Rattle.bs_lanes.specs.Planes.{lane}
use Rattle.bs_scan.specs.Choice.{Chosen}
use Rattle.bs_scan.specs.Moments.{Run, moment, IsMoment, run_of}
use Rattle.bs_scan.specs.Signature.{signature}
use Rattle.bs_chip.specs.Lockstep.{wide_of}

-- whether a lane of planes, each of so many words, has a signature
unfoldable pub shows_signature : Chosen → List ℕ → ℕ → List Bool → ℕ → Bool
shows_signature choice planes wide stored r = bits_eq (signature choice (lane wide choice.width planes r)) stored

-- no run behind a number, up to another, that lasts to a cycle has a lane with the signature
pub record NoneShowing (choice : Chosen) (runs : List Run) (planes : List ℕ) (stored : List Bool) (cycle from below : ℕ) : Type 0 where
  pub each : (n : ℕ) → from < n → n ≤ below → n ≤ length runs → cycle ≤ length (run_of runs n) →
      shows_signature choice planes (wide_of (length runs)) stored (n - 1) ≡ false

-- the first run behind a number that has one
pub record IsNextShowing (choice : Chosen) (runs : List Run) (planes : List ℕ) (stored : List Bool) (cycle from n : ℕ) : Type 0 where
  pub behind : from < n
  pub is_moment : IsMoment runs (moment n cycle)
  pub shows : shows_signature choice planes (wide_of (length runs)) stored (n - 1) ≡ true
  pub before : NoneShowing choice runs planes stored cycle from (n - 1)
