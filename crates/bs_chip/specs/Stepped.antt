-- What a contract sees of a chip: a recording, and the cycle at which its runs stand in the lanes.
use Rattle.std.specs.Prelude.{◌≡◌, ℕ, ◌≤◌, ◌-◌, length}
use Rattle.bs_lanes.specs.Lanes.{LaneTable, state_in}
use Rattle.bs_scan.specs.Crash.{Recording}
use Rattle.bs_scan.specs.Moments.{run_of, state_at}

pub record Stepped : Type 0 where
  pub recording : Recording
  pub at : ℕ

-- each run that lasts to a cycle stands there in the lanes
pub record StandsAt (r : Recording) (lanes : LaneTable) (cycle : ℕ) : Type 0 where
  pub each : (n : ℕ) → 1 ≤ n → n ≤ length r.runs → cycle ≤ length (run_of r.runs n) → state_in lanes (n - 1) ≡ state_at r.circuit (run_of r.runs n) cycle
