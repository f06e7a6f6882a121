-- The nearest of the moments that were looked at.
use Rattle.std.specs.Prelude.{◌≡◌, ◌⊎◌, ℕ, ◌<◌, ◌≤◌, ◌+◌, ◌*◌, ◌==◌, ◌&&◌, ◌||◌, nat_lt, nat_le, Bool, List, [], length, slice_index_or, count_by, Option, Some, None, if◌then◌else◌}
use Rattle.std.specs.List.{range_with_len}
use Rattle.bs_net.specs.Circuit.{Circuit}
use Rattle.bs_net.specs.declared.limits.TheConstants.{MAX_FLOPS}
use Rattle.bs_scan.specs.Moments.{IsMoment, Moment, Run, state_at, state_of}
use Rattle.bs_scan.specs.declared.seen.Seen.{Seen}
use Rattle.bs_break.specs.Masks.{has}
use Rattle.bs_lanes.specs.Planes.{lane}
use Rattle.bs_inspect_near.specs.Counters.{lane_count}
use Rattle.bs_inspect_near.specs.Distance.{differs, distance}
use Rattle.bs_inspect_near.specs.Nearest.{IsNearest, IsNoNearer, moment_of, no_state}
use Rattle.bs_inspect_near.specs.declared.distances.TheConstants.{DIGITS}
use Rattle.bs_inspect_near.specs.declared.search.Near.{Near}

-- ---- counts

-- in how many of the first places the state of each lane of a word differs
pub record IsCount (planes : List ℕ) (wide word : ℕ) (seen : Seen) (places : ℕ) (digits : List ℕ) : Type 0 where
  pub size : length digits ≡ DIGITS
  pub each : (b : ℕ) → b < 64 →
      lane_count digits b ≡ count_by (differs (lane wide (length seen.bits) planes (word * 64 + b)) seen) (range_with_len 0 places)

-- the mask has the lanes of a word whose states differ at a place
pub record ShowsPlace (planes : List ℕ) (wide word : ℕ) (seen : Seen) (place mask : ℕ) : Type 0 where
  pub each : (b : ℕ) → b < 64 → has mask b ≡ differs (lane wide (length seen.bits) planes (word * 64 + b)) seen place

-- the run of a lane
abbrev pub lane_run : List Run → ℕ → ℕ → Run
lane_run runs first k = slice_index_or runs (first + k) []

-- in how many bits the state of each lane that lasts to a cycle differs
pub record ShowsCounts (c : Circuit) (runs : List Run) (first cycle : ℕ) (seen : Seen) (digits : List ℕ) : Type 0 where
  pub few : (k : ℕ) → k < 64 → lane_count digits k ≤ MAX_FLOPS
  pub each : (k : ℕ) → k < 64 → first + k < length runs → cycle ≤ length (lane_run runs first k) →
      lane_count digits k ≡ distance (state_at c (lane_run runs first k) cycle) seen

-- ---- the nearest

-- whether a lane has a run that lasts to a cycle
abbrev pub is_viewed : List Run → (first cycle k : ℕ) → Bool
is_viewed runs first cycle k = nat_lt (first + k) (length runs) && nat_le cycle (length (lane_run runs first k))

-- one is nearer than another, or as near and of a lower run
abbrev pub is_nearer : Near → Near → Bool
is_nearer new old = nat_lt new.count old.count || ((new.count == old.count) && nat_lt new.run old.run)

abbrev pub nearer : Option Near → Near → Near
nearer None new = new
nearer (Some old) new = if is_nearer new old then new else old

-- the moments that were looked at: those of the cycles before one, and at this one those of the first runs
pub record IsVisited (cycle upto : ℕ) (m : Moment) : Type 0 where
  pub either : (m.cycle < cycle) ⊎ ((m.cycle ≡ cycle) × (m.run ≤ upto))

-- the nearest of them
pub record IsNearestVisited (c : Circuit) (runs : List Run) (seen : Seen) (cycle upto : ℕ) (near : Near) : Type 0 where
  pub recorded : IsMoment runs (moment_of near)
  pub counted : near.count ≡ distance (state_of c runs (moment_of near)) seen
  pub visited : near.cycle ≤ cycle
  pub nearest : (m : Moment) → IsMoment runs m → IsVisited cycle upto m → IsNoNearer near (distance (state_of c runs m) seen) m

-- none was looked at
pub record NoneVisited (runs : List Run) (cycle upto : ℕ) : Type 0 where
  pub is : (m : Moment) → IsMoment runs m → IsVisited cycle upto m → ⊥

abbrev pub BestIs : Circuit → List Run → Seen → (cycle upto : ℕ) → Option Near → Type 0
BestIs c runs seen cycle upto None = NoneVisited runs cycle upto
BestIs c runs seen cycle upto (Some near) = IsNearestVisited c runs seen cycle upto near

-- the nearest, or that none was looked at
pub record IsBest (c : Circuit) (runs : List Run) (seen : Seen) (cycle upto : ℕ) (best : Option Near) : Type 0 where
  pub is : BestIs c runs seen cycle upto best

-- ---- the nearest to each of some states

-- of the moments before a cycle, or that there is none
pub record AreBest (c : Circuit) (runs : List Run) (states : List Seen) (cycle : ℕ) (bests : List (Option Near)) : Type 0 where
  pub count : length bests ≡ length states
  pub each : (i : ℕ) → i < length states → IsBest c runs (slice_index_or states i no_state) cycle 0 (slice_index_or bests i None)

abbrev pub FoundNearest : Circuit → List Run → Seen → Option Near → Type 0
FoundNearest c runs seen None = ⊥
FoundNearest c runs seen (Some near) = IsNearest c runs seen near

-- of all moments
pub record AreFound (c : Circuit) (runs : List Run) (states : List Seen) (bests : List (Option Near)) : Type 0 where
  pub count : length bests ≡ length states
  pub each : (i : ℕ) → i < length states → FoundNearest c runs (slice_index_or states i no_state) (slice_index_or bests i None)
