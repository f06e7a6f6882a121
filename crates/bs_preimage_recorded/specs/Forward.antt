-- Where recorded states lead: hashes of the next bits that no data input but one moves, where that one is 0, and where it is 1.
use Rattle.std.specs.Prelude.{◌≡◌, ◌≢◌, ℕ, ◌<◌, ◌≤◌, ◌+◌, ◌-◌, ◌*◌, Bool, true, false, List, [], length, slice_index_or}
use Rattle.bs_net.specs.Circuit.{Circuit, next}
use Rattle.bs_stim.specs.declared.limits.TheConstants.{MAX_CYCLES}
use Rattle.bs_stim.specs.Packing.{bit_in}
use Rattle.bs_lanes.specs.Planes.{bit_place, lane}
use Rattle.bs_scan.specs.Moments.{Run, moment, IsMoment, run_of, state_at}
use Rattle.bs_preimage_recorded.specs.declared.forward.PresentHashes.{PresentHashes}
use Rattle.bs_preimage_recorded.specs.declared.forward.NextStateHashes.{NextStateHashes}
use Rattle.bs_chip.specs.Lockstep.{wide_of, Passing}
use Rattle.bs_chip.specs.Hashes.{hash_of}
use Rattle.bs_preimage_recorded.specs.Groups.{parities_of, AreIndependent}

-- ---- what callers see

-- a machine and its runs, and groups of the flip-flops that are looked at where the data input is 0, and where it is 1
pub record Ahead : Type 0 where
  pub circuit : Circuit
  pub runs : List Run
  pub low : List (List ℕ)
  pub high : List (List ℕ)

-- the hashes of a state's parities that are looked at
pub record IsAim (a : Ahead) (present : List Bool) (aim : PresentHashes) : Type 0 where
  pub low : aim.low ≡ hash_of (parities_of a.low present)
  pub high : aim.high ≡ hash_of (parities_of a.high present)

-- under no input of the netlist's width does a state lead to another
pub record LeadsNowhere (c : Circuit) (s present : List Bool) : Type 0 where
  pub each : (x : List Bool) → length x ≡ length c.inputs → next c s x ≢ present

-- no state of a cycle before this one leads to a present
pub record NoneLeadBefore (c : Circuit) (runs : List Run) (present : List Bool) (limit : ℕ) : Type 0 where
  pub each : (run cycle : ℕ) → cycle < limit → IsMoment runs (moment run cycle) → LeadsNowhere c (state_at c (run_of runs run) cycle) present

-- ---- one value of the input

-- a machine in which a data input is held at a value, the number of words of a plane, and groups of flip-flops
pub record Holding : Type 0 where
  pub circuit : Circuit
  pub wide : ℕ
  pub input : ℕ
  pub value : Bool
  pub groups : List (List ℕ)

-- an input of a machine is held at a value
pub record Holds (c : Circuit) (wide input : ℕ) (value : Bool) (h : Holding) : Type 0 where
  pub circuit_is : h.circuit ≡ c
  pub wide_is : h.wide ≡ wide
  pub input_is : h.input ≡ input
  pub value_is : h.value ≡ value

-- in each of the first lanes the plane of an input has a bit
pub record IsHeldIn (wide input : ℕ) (value : Bool) (planes : List ℕ) (lanes : ℕ) : Type 0 where
  pub each : (r : ℕ) → r < lanes → bit_in planes (bit_place wide input r) ≡ value

-- the input has the value in each lane, if it is there, and the groups are independent then
pub record IsHolding (h : Holding) (inputs : List ℕ) (width : ℕ) : Type 0 where
  pub some : 1 ≤ h.wide
  pub few : h.wide ≤ 4
  pub width_is : width ≡ length h.circuit.flops
  pub size : length inputs ≡ length h.circuit.inputs * h.wide
  pub held : h.input < length h.circuit.inputs → IsHeldIn h.wide h.input h.value inputs (64 * h.wide)
  pub independent : AreIndependent h.circuit h.input h.value h.groups

-- a hash is that of where a state leads under each input in which this one has the value, of the groups
pub record TellsLead (h : Holding) (s : List Bool) (hash : ℕ) : Type 0 where
  pub each : (x : List Bool) → length x ≡ length h.circuit.inputs → slice_index_or x h.input false ≡ h.value →
      hash ≡ hash_of (parities_of h.groups (next h.circuit s x))

-- so many hashes are those of where the lanes of planes lead
pub record TellLeads (h : Holding) (planes hashes : List ℕ) (lanes : ℕ) : Type 0 where
  pub size : length hashes ≡ lanes
  pub each : (r : ℕ) → r < lanes → TellsLead h (lane h.wide (length h.circuit.flops) planes r) (slice_index_or hashes r 0)

-- ---- all runs

-- the hashes of where each run leads from a cycle that it lasts to
pub record TellRuns (p : Passing) (h : Holding) (hashes : List ℕ) (cycle : ℕ) : Type 0 where
  pub size : length hashes ≡ length p.runs
  pub each : (n : ℕ) → 1 ≤ n → n ≤ length p.runs → cycle ≤ length (run_of p.runs n) →
      TellsLead h (state_at p.circuit (run_of p.runs n) cycle) (slice_index_or hashes (n - 1) 0)

-- the same for both values
pub record TellsRow (p : Passing) (low high : Holding) (row : NextStateHashes) (cycle : ℕ) : Type 0 where
  pub lows : TellRuns p low row.low cycle
  pub highs : TellRuns p high row.high cycle

-- a row of nothing, which stands past the end of a list
abbrev pub no_row : NextStateHashes
no_row = record { low = []; high = [] }

-- a machine with an input held at a value is that of a pass
pub record IsSide (p : Passing) (h : Holding) (value : Bool) : Type 0 where
  pub circuit : h.circuit ≡ p.circuit
  pub wide : h.wide ≡ wide_of (length p.runs)
  pub held : h.value ≡ value

-- the rows of the first cycles, the last of which is that of the pass or the one before
pub record IsForward (p : Passing) (low high : Holding) (rows : List NextStateHashes) : Type 0 where
  pub low_side : IsSide p low false
  pub high_side : IsSide p high true
  pub input : high.input ≡ low.input
  pub noted : p.cycle ≤ length rows
  pub near : length rows ≤ p.cycle + 1
  pub few : length rows ≤ MAX_CYCLES + 1
  pub show : (k : ℕ) → k < length rows → TellsRow p low high (slice_index_or rows k no_row) k

-- the same rows, and perhaps further ones
pub record Extended (old new : List NextStateHashes) : Type 0 where
  pub longer : length old ≤ length new
  pub each : (k : ℕ) → k < length old → slice_index_or new k no_row ≡ slice_index_or old k no_row
