-- All runs in lock step: what planes show at a cycle.
use Rattle.std.specs.Prelude.{◌≡◌, ◌⊎◌, ℕ, ◌<◌, ◌≤◌, ◌+◌, ◌-◌, ◌*◌, nat_le, Bool, true, false, ◌&&◌, List, [], ◌∷◌, ◌++◌, length, slice_index_or, if◌then◌else◌}
use Rattle.bs_net.specs.Circuit.{Circuit}
use Rattle.bs_net.specs.Netlist.{circuit}
use Rattle.bs_stim.specs.declared.limits.TheConstants.{MAX_CYCLES}
use Rattle.bs_stim.specs.Runs.{Stimulus, IsStimulus, inputs_of}
use Rattle.bs_lanes.specs.Planes.{lane}
use Rattle.bs_lanes.specs.Lanes.{LaneTable}
use Rattle.bs_scan.specs.Moments.{Run, Moment, run_of, state_at, is_listed}
use Rattle.bs_break.specs.Bank.{Banked}
use Rattle.bs_chip.specs.Live.{Lasting, lasts}
use Rattle.bs_chip.specs.Replay.{lists}

-- how many words a plane of so many runs has
abbrev pub wide_of : ℕ → ℕ
wide_of runs = if nat_le runs 64 then 1 else (if nat_le runs 128 then 2 else 4)

-- the planes show the state of each run at a cycle that it lasts to
pub record ShowsCycle (c : Circuit) (runs : List Run) (planes : List ℕ) (cycle : ℕ) : Type 0 where
  pub size : length planes ≡ length c.flops * wide_of (length runs)
  pub each : (r : ℕ) → 1 ≤ r → r ≤ length runs → cycle ≤ length (run_of runs r) →
      lane (wide_of (length runs)) (length c.flops) planes (r - 1) ≡ state_at c (run_of runs r) cycle

-- the planes of the first cycles show each run at each of them
pub record TrackShows (c : Circuit) (runs : List Run) (track : List (List ℕ)) : Type 0 where
  pub some : 1 ≤ length track
  pub few : length track ≤ MAX_CYCLES + 1
  pub each : (k : ℕ) → k < length track → ShowsCycle c runs (slice_index_or track k []) k

-- the planes of a cycle come behind those of the cycles before, or nothing has changed
pub record Extends (old new : List (List ℕ)) (planes : List ℕ) (cycle : ℕ) : Type 0 where
  pub either : (new ≡ old) ⊎ ((length old ≡ cycle) × (new ≡ old ++ planes ∷ []))

-- the lanes have the machine and the width of the runs, and there is a plane for each data input
pub record IsLockstep (c : Circuit) (runs : List Run) (lanes : LaneTable) (inputs : List ℕ) : Type 0 where
  pub net : circuit lanes.net ≡ c
  pub wide : lanes.wide ≡ wide_of (length runs)
  pub room : length runs ≤ 64 * wide_of (length runs)
  pub size : length inputs ≡ length c.inputs * wide_of (length runs)

-- whether a lane belongs to a run that lasts to a cycle, and shows a listed state
abbrev pub is_hit : Lasting → Banked → ℕ → List ℕ → ℕ → Bool
is_hit live bank wide planes r = lasts live.runs live.cycle r && is_listed bank.states (lane wide bank.width planes r)

-- no lane from a number on, below another, is a hit
pub record NoneHits (live : Lasting) (bank : Banked) (wide : ℕ) (planes : List ℕ) (from below : ℕ) : Type 0 where
  pub each : (r : ℕ) → from ≤ r → r < below → is_hit live bank wide planes r ≡ false

-- the run of the lowest lane from a number on that is a hit
pub record IsLowestHit (live : Lasting) (bank : Banked) (wide : ℕ) (planes : List ℕ) (from run : ℕ) : Type 0 where
  pub some : 1 ≤ run
  pub behind : from ≤ run - 1
  pub hit : is_hit live bank wide planes (run - 1) ≡ true
  pub before : NoneHits live bank wide planes from (run - 1)

-- no run behind a number, up to another, is in a listed state at a cycle that it lasts to
pub record NoneAmong (c : Circuit) (runs : List Run) (states : List (List Bool)) (cycle from below : ℕ) : Type 0 where
  pub each : (r : ℕ) → from < r → r ≤ below → r ≤ length runs → cycle ≤ length (run_of runs r) → lists c (run_of runs r) states cycle ≡ false

-- the lowest run behind a number that is in a listed state at a cycle that it lasts to
pub record IsLowest (c : Circuit) (runs : List Run) (states : List (List Bool)) (cycle from r : ℕ) : Type 0 where
  pub behind : from < r
  pub recorded : r ≤ length runs
  pub lasts : cycle ≤ length (run_of runs r)
  pub listed : lists c (run_of runs r) states cycle ≡ true
  pub before : NoneAmong c runs states cycle from (r - 1)

-- no run is in a listed state at a cycle below a limit
pub record NoneBefore (c : Circuit) (runs : List Run) (states : List (List Bool)) (limit : ℕ) : Type 0 where
  pub each : (cycle : ℕ) → cycle < limit → NoneAmong c runs states cycle 0 (length runs)

-- the lowest run at the first cycle at which a run is in a listed state
pub record IsFirstIn (c : Circuit) (runs : List Run) (states : List (List Bool)) (m : Moment) : Type 0 where
  pub lowest : IsLowest c runs states m.cycle 0 m.run
  pub before : NoneBefore c runs states m.cycle

-- no run has more cycles
pub record IsLongest (runs : List Run) (most : ℕ) : Type 0 where
  pub each : (r : ℕ) → 1 ≤ r → r ≤ length runs → length (run_of runs r) ≤ most

-- no run is in a listed state at any cycle that it lasts to
pub record NoneReached (c : Circuit) (runs : List Run) (states : List (List Bool)) : Type 0 where
  pub each : (cycle : ℕ) → NoneAmong c runs states cycle 0 (length runs)

-- a machine, runs, and the cycle at which all of them stand
pub record Passing : Type 0 where
  pub circuit : Circuit
  pub runs : List Run
  pub cycle : ℕ

-- the same machine and runs
pub record IsSamePass (old new : Passing) : Type 0 where
  pub circuit : new.circuit ≡ old.circuit
  pub runs : new.runs ≡ old.runs

-- what a pass keeps: the runs, lanes that stand at a cycle, which runs last to some cycle, and planes of inputs
pub record IsPass (runs : Stimulus) (lanes : LaneTable) (live : Lasting) (inputs : List ℕ) (at : ℕ) : Type 0 where
  pub sound : IsStimulus runs
  pub width : runs.width ≡ length (circuit lanes.net).inputs
  pub lockstep : IsLockstep (circuit lanes.net) (inputs_of runs) lanes inputs
  pub lives : live.runs ≡ inputs_of runs
  pub shows : ShowsCycle (circuit lanes.net) (inputs_of runs) lanes.flops at

-- the lanes are those of a pass
pub record ShowsPass (p : Passing) (lanes : LaneTable) : Type 0 where
  pub net : circuit lanes.net ≡ p.circuit
  pub wide : lanes.wide ≡ wide_of (length p.runs)
  pub shows : ShowsCycle p.circuit p.runs lanes.flops p.cycle
