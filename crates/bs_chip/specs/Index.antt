-- The index of states: for the hash of each state of the first cycles, a cycle that is no later.
use Rattle.std.specs.Prelude.{◌≡◌, ◌⊎◌, ℕ, ◌<◌, ◌≤◌, ◌+◌, ◌-◌, ◌*◌, ◌/◌, ◌^◌, ◌==◌, min, nat_eq, Bool, true, false, Option, Some, None, List, length}
use Rattle.std.specs.List.{list_any}
use Rattle.std.specs.HashMap.{get, HashMap}
use Rattle.std.specs.Option.{unwrap_or}
use Rattle.bs_net.specs.Circuit.{Circuit}
use Rattle.bs_lanes.specs.Planes.{lane}
use Rattle.bs_scan.specs.Moments.{Run, Moment, run_of, state_at}
use Rattle.bs_chip.specs.declared.index.TheConstants.{MAX_HASHES}
use Rattle.bs_chip.specs.Lockstep.{wide_of}
use Rattle.bs_chip.specs.Hashes.{hash_of}

-- how many looks at a cycle pay for the notes of one, where each of so many runs has a state of so many bits
abbrev pub price_of : ℕ → ℕ → ℕ
price_of width runs = min ((width / 8 + 2) * runs) (2 ^ 64 - 1)

-- the cycles from one to another are paid for out of a credit, each by a price, and the rest is left
pub record IsPaid (price credit left from to : ℕ) : Type 0 where
  pub grown : from ≤ to
  pub paid : price * (to - from) + left ≡ credit

-- so many kept cycles are all noted, or the credit does not pay for the next one, or there are as many hashes as there may be
pub record IsSpent (price left kept cycles hashes : ℕ) : Type 0 where
  pub either : (kept ≤ cycles) ⊎ ((left < price) ⊎ (MAX_HASHES ≤ hashes))

-- a run that lasts to a cycle is in a state with a hash there
pub record IsHashed (c : Circuit) (runs : List Run) (hash cycle : ℕ) : Type 0 where
  pub run : ℕ
  pub from_one : 1 ≤ run
  pub recorded : run ≤ length runs
  pub lasts : cycle ≤ length (run_of runs run)
  pub is : hash_of (state_at c (run_of runs run) cycle) ≡ hash

-- and none is before
pub record IsFirstHashed (c : Circuit) (runs : List Run) (hash cycle : ℕ) : Type 0 where
  pub there : IsHashed c runs hash cycle
  pub before : (k : ℕ) → k < cycle → IsHashed c runs hash k → ⊥

-- how many cycles of so many kept ones were looked at, from one on: all of them, or those up to the moment that was found
abbrev pub looks : ℕ → ℕ → Option Moment → ℕ
looks from kept None = kept - from
looks from kept (Some m) = min (m.cycle + 1) kept - from

-- whether this is the cycle that a hash has
abbrev pub is_cycle : Option ℕ → ℕ → Bool
is_cycle None cycle = false
is_cycle (Some c) cycle = c == cycle

module _ {S : Type 0} where
  -- a cycle is that of one of the hashes, or lies behind all that are noted
  pub record IsNoted (first : HashMap ℕ ℕ S) (cycles from : ℕ) {X : Type 0} (hash : X → ℕ) (xs : List X) : Type 0 where
    pub either : (from ≡ cycles) ⊎ (list_any (λ x. is_cycle (get nat_eq first (hash x)) from) xs ≡ true)

  -- a hash has a cycle, and none later than this one
  abbrev pub HasBy : HashMap ℕ ℕ S → ℕ → ℕ → Type 0
  HasBy first hash cycle = unwrap_or (get nat_eq first hash) (cycle + 1) ≤ cycle

  -- what a hash has by a cycle it still has by it
  pub record Keeps (old new : HashMap ℕ ℕ S) : Type 0 where
    pub each : (hash cycle : ℕ) → HasBy old hash cycle → HasBy new hash cycle

  -- the hashes of the lanes of the first runs that last to a cycle have it, or one before
  pub record NotesLanes (runs : List Run) (first : HashMap ℕ ℕ S) (planes : List ℕ) (width cycle below : ℕ) : Type 0 where
    pub each : (r : ℕ) → 1 ≤ r → r ≤ below → cycle ≤ length (run_of runs r) →
        HasBy first (hash_of (lane (wide_of (length runs)) width planes (r - 1))) cycle

  -- the hashes of the states of all runs that last to a cycle have it, or one before
  pub record NotesCycle (c : Circuit) (runs : List Run) (first : HashMap ℕ ℕ S) (cycle : ℕ) : Type 0 where
    pub each : (r : ℕ) → 1 ≤ r → r ≤ length runs → cycle ≤ length (run_of runs r) → HasBy first (hash_of (state_at c (run_of runs r) cycle)) cycle

  -- the same of each cycle below another
  pub record NotesCycles (c : Circuit) (runs : List Run) (first : HashMap ℕ ℕ S) (cycles : ℕ) : Type 0 where
    pub each : (cycle : ℕ) → cycle < cycles → NotesCycle c runs first cycle

  -- a hash and its cycle are as before, or have come: of the hash of a lane of the first runs that last to this cycle, and which had
  -- no cycle by it
  pub record IsAdded (runs : List Run) (old : HashMap ℕ ℕ S) (planes : List ℕ) (width cycle below hash at : ℕ) : Type 0 where
    pub here : at ≡ cycle
    pub late : HasBy old hash cycle → ⊥
    pub run : ℕ
    pub from_one : 1 ≤ run
    pub recorded : run ≤ below
    pub lasts : cycle ≤ length (run_of runs run)
    pub is : hash_of (lane (wide_of (length runs)) width planes (run - 1)) ≡ hash

  pub record AddsLanes (runs : List Run) (old new : HashMap ℕ ℕ S) (planes : List ℕ) (width cycle below : ℕ) : Type 0 where
    pub each : (hash at : ℕ) → get nat_eq new hash ≡ Some at →
        (get nat_eq old hash ≡ Some at) ⊎ IsAdded runs old planes width cycle below hash at

  -- the same of one hash
  pub record AddsHash (old new : HashMap ℕ ℕ S) (hash cycle : ℕ) : Type 0 where
    pub each : (other at : ℕ) → get nat_eq new other ≡ Some at →
        (get nat_eq old other ≡ Some at) ⊎ ((other ≡ hash) × (at ≡ cycle) × (HasBy old hash cycle → ⊥))

  -- each noted hash has the first cycle at which a run is in a state with it
  pub record NotesFirsts (c : Circuit) (runs : List Run) (first : HashMap ℕ ℕ S) : Type 0 where
    pub each : (hash cycle : ℕ) → get nat_eq first hash ≡ Some cycle → IsFirstHashed c runs hash cycle

  -- a hash has no cycle before this one
  pub record HasNoneBefore (first : HashMap ℕ ℕ S) (from hash : ℕ) : Type 0 where
    pub each : (cycle : ℕ) → cycle < from → HasBy first hash cycle → ⊥
