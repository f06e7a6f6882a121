-- The first recorded predecessor.
use Rattle.std.specs.Prelude.{◌≡◌, ℕ, ◌≤◌, ◌<◌, ◌+◌, ◌-◌, nat_le, ◌&&◌, Bool, true, List, ◌∷◌, length, count_by, sum_by, Option, Some, None}
use Rattle.std.specs.List.{range_with_len}
use Rattle.std.specs.Option.{option_to_list}
use Rattle.bs_scan.specs.declared.seen.Seen.{Seen}
use Rattle.bs_scan.specs.Crash.{Recording}
use Rattle.bs_scan.specs.Moments.{Run, Moment, moment, IsMoment, run_of, state_at, state_of}
use Rattle.bs_scan.specs.Signature.{predecessors}
use Rattle.bs_chip.specs.Lockstep.{IsFirstIn, IsLowest, NoneAmong, NoneBefore, NoneReached}
use Rattle.bs_chip.specs.SignatureHashes.{is_alike}
use Rattle.bs_preimage.specs.Listed.{IsRightCand}
use Rattle.bs_preimage.specs.Probe.{IsUnknown}
use Rattle.bs_preimage.specs.declared.probe.Probed.{Probed}
use Rattle.bs_preimage.specs.declared.probe.Probed.TheVariants.{Predecessor, NoPredecessor, Unknown}
use Rattle.bs_preimage_recorded.specs.declared.search.Recorded.{Recorded}
use Rattle.bs_preimage_recorded.specs.declared.search.Sought.{Sought}
use Rattle.bs_preimage_recorded.specs.declared.search.Sought.TheVariants.{Found, NoMoment, Cut, Unsaid}
use Rattle.bs_preimage_recorded.specs.declared.search.RunResult.{RunResult}
use Rattle.bs_preimage_recorded.specs.declared.search.RunResult.TheVariants.{GoOn, End}

-- the predecessors of a present that agree with its stored signatures
abbrev pub asked_in : Recording → Seen → List Bool → Option (List Bool) → List (List Bool)
asked_in r present stored older = predecessors r.circuit r.choice present (stored ∷ option_to_list older)

-- whether there is a run with this number, and it lasts to the cycle
abbrev pub is_recorded : List Run → Moment → Bool
is_recorded runs m = nat_le m.run (length runs) && nat_le m.cycle (length (run_of runs m.run))

-- how many runs, up to a number, are at a cycle in a state whose signature has the hash of a stored one
abbrev pub alike_at : Recording → List Bool → ℕ → ℕ → ℕ
alike_at r stored cycle below =
    count_by (λ run. is_recorded r.runs (moment run cycle) && is_alike r stored (moment run cycle)) (range_with_len 1 below)

-- how many moments before a cycle are in such a state
abbrev pub alike_below : Recording → List Bool → ℕ → ℕ
alike_below r stored limit = sum_by (λ cycle. alike_at r stored cycle (length r.runs)) (range_with_len 0 limit)

-- how many moments before one are: those of the cycles before its own, and those of the runs before its own
abbrev pub alike_before : Recording → List Bool → Moment → ℕ
alike_before r stored m = alike_below r stored m.cycle + alike_at r stored m.cycle (m.run - 1)

-- the candidate has the state of the moment
pub record IsRecorded (r : Recording) (present : Seen) (stored : List Bool) (older : Option (List Bool)) (f : Recorded) : Type 0 where
  pub cand : IsRightCand r.circuit r.choice present stored older f.cand
  pub state : f.cand.state ≡ state_at r.circuit (run_of r.runs f.run) f.cycle

-- a moment of a cycle, behind a run, whose signature has the hash of the stored one, and no run between them is in a listed state there
pub record IsOpenAt (r : Recording) (states : List (List Bool)) (stored : List Bool) (cycle from : ℕ) (m : Moment) : Type 0 where
  pub cycle_is : m.cycle ≡ cycle
  pub behind : from < m.run
  pub there : IsMoment r.runs m
  pub alike : is_alike r stored m ≡ true
  pub before : NoneAmong r.circuit r.runs states cycle from (m.run - 1)

-- What comes of the runs behind a number, up to another, at a cycle: the lowest one that is in a predecessor there, or that none is; or
-- a moment at which the search ends, and before which none is.
abbrev pub SoughtAt : Recording → Seen → List Bool → Option (List Bool) → ℕ → ℕ → ℕ → Sought → Type 0
SoughtAt r present stored older cycle from below (Found f) =
    (f.cycle ≡ cycle) × IsLowest r.circuit r.runs (asked_in r present stored older) cycle from f.run × IsRecorded r present stored older f
SoughtAt r present stored older cycle from below NoMoment = NoneAmong r.circuit r.runs (asked_in r present stored older) cycle from below
SoughtAt r present stored older cycle from below (Cut m) = IsOpenAt r (asked_in r present stored older) stored cycle from m
SoughtAt r present stored older cycle from below (Unsaid m) = IsOpenAt r (asked_in r present stored older) stored cycle from m

-- none is up to a later number, or that is what comes of them
abbrev pub TurnsTo : Recording → Seen → List Bool → Option (List Bool) → ℕ → ℕ → ℕ → RunResult → Type 0
TurnsTo r present stored older cycle from below (GoOn run) =
    (from < run) × (run ≤ below) × NoneAmong r.circuit r.runs (asked_in r present stored older) cycle from run
TurnsTo r present stored older cycle from below (End sought) = SoughtAt r present stored older cycle from below sought

-- what an answer about a run means for the search at its cycle
abbrev pub turn_by : Probed → ℕ → ℕ → RunResult
turn_by (Predecessor cand) run cycle = End (Found (record { run = run; cycle = cycle; cand = cand }))
turn_by NoPredecessor run cycle = GoOn run
turn_by Unknown run cycle = End (Unsaid (moment run cycle))

-- ---- what was asked

-- it stays unknown whether the state of a moment is a predecessor, where b is the budget of a solve
abbrev pub IsUnknownAt : Recording → Seen → List Bool → Option (List Bool) → ℕ → Moment → Type 0
IsUnknownAt r present stored older b m = IsUnknown r.circuit r.choice present stored older (state_of r.circuit r.runs m) b

-- Of so many tries these are left. No more were taken than there are moments alike up to the end; and where they were all taken, there are
-- as many moments alike before the one at which the search was cut. A moment that is unsaid stays unknown.
abbrev pub HasTried : ℕ → ℕ → ℕ → (Moment → ℕ) → (Moment → Type 0) → Sought → Type 0
HasTried old new alike before unknown (Found f) = Unit {0}
HasTried old new alike before unknown NoMoment = old ≤ new + alike
HasTried old new alike before unknown (Cut m) = old ≤ before m
HasTried old new alike before unknown (Unsaid m) = unknown m

-- the same of one run behind another, where so many are alike up to a run
abbrev pub HasTurned : ℕ → ℕ → (ℕ → ℕ) → (Moment → Type 0) → ℕ → ℕ → RunResult → Type 0
HasTurned old new alike unknown from below (GoOn run) = old + alike from ≤ new + alike run
HasTurned old new alike unknown from below (End sought) =
    HasTried (old + alike from) new (alike below) (λ m. alike (m.run - 1)) unknown sought

-- ---- in the order of moments

pub record IsFirstRecorded (r : Recording) (present : Seen) (stored : List Bool) (older : Option (List Bool)) (f : Recorded) : Type 0 where
  pub first : IsFirstIn r.circuit r.runs (asked_in r present stored older) (moment f.run f.cycle)
  pub recorded : IsRecorded r present stored older f

-- no run is in a predecessor before a moment
pub record NoneSooner (r : Recording) (states : List (List Bool)) (m : Moment) : Type 0 where
  pub cycles : NoneBefore r.circuit r.runs states m.cycle
  pub runs : NoneAmong r.circuit r.runs states m.cycle 0 (m.run - 1)

-- the moment at which a search ends whose signature has the hash of the stored one; no run is in a predecessor before it
pub record StaysOpen (r : Recording) (states : List (List Bool)) (stored : List Bool) (m : Moment) : Type 0 where
  pub there : IsMoment r.runs m
  pub alike : is_alike r stored m ≡ true
  pub sooner : NoneSooner r states m

-- what comes of the cycles before a limit
abbrev pub SoughtBefore : Recording → Seen → List Bool → Option (List Bool) → ℕ → Sought → Type 0
SoughtBefore r present stored older limit (Found f) = IsFirstRecorded r present stored older f
SoughtBefore r present stored older limit NoMoment = NoneBefore r.circuit r.runs (asked_in r present stored older) limit
SoughtBefore r present stored older limit (Cut m) = StaysOpen r (asked_in r present stored older) stored m
SoughtBefore r present stored older limit (Unsaid m) = StaysOpen r (asked_in r present stored older) stored m

-- what comes of the moments before one
abbrev pub SoughtSooner : Recording → Seen → List Bool → Option (List Bool) → Moment → Sought → Type 0
SoughtSooner r present stored older m (Found f) = IsFirstRecorded r present stored older f
SoughtSooner r present stored older m NoMoment = NoneSooner r (asked_in r present stored older) m
SoughtSooner r present stored older m (Cut o) = StaysOpen r (asked_in r present stored older) stored o
SoughtSooner r present stored older m (Unsaid o) = StaysOpen r (asked_in r present stored older) stored o

-- what comes of all moments
abbrev pub SoughtOfAll : Recording → Seen → List Bool → Option (List Bool) → Sought → Type 0
SoughtOfAll r present stored older (Found f) = IsFirstRecorded r present stored older f
SoughtOfAll r present stored older NoMoment = NoneReached r.circuit r.runs (asked_in r present stored older)
SoughtOfAll r present stored older (Cut o) = StaysOpen r (asked_in r present stored older) stored o
SoughtOfAll r present stored older (Unsaid o) = StaysOpen r (asked_in r present stored older) stored o

-- what comes of those before a moment, if one is given, or of all
abbrev pub SoughtWithin : Recording → Seen → List Bool → Option (List Bool) → Option Moment → Sought → Type 0
SoughtWithin r present stored older None sought = SoughtOfAll r present stored older sought
SoughtWithin r present stored older (Some m) sought = SoughtSooner r present stored older m sought

-- Before the moment at which a search was cut there are so many whose signature has the hash of the stored one. A moment that is unsaid
-- stays unknown, where b is the budget of a solve.
abbrev pub IsCutAt : Recording → Seen → List Bool → Option (List Bool) → ℕ → ℕ → Sought → Type 0
IsCutAt r present stored older b limit (Found f) = Unit {0}
IsCutAt r present stored older b limit NoMoment = Unit {0}
IsCutAt r present stored older b limit (Cut m) = limit ≤ alike_before r stored m
IsCutAt r present stored older b limit (Unsaid m) = IsUnknownAt r present stored older b m
