-- What is known of the states before a present.
use Rattle.std.specs.Prelude.{◌≡◌, ◌≢◌, ◌⊎◌, ℕ, ◌-◌, ◌==◌, ◌<◌, ◌≤◌, Bool, if◌then◌else◌, List, Option, Some, None, IfSome, MatchOption}
use Rattle.bs_scan.specs.declared.seen.Seen.{Seen}
use Rattle.bs_scan.specs.declared.dump.Dump.{Dump}
use Rattle.bs_scan.specs.Crash.{Recording}
use Rattle.bs_scan.specs.Moments.{Moment, moment, IsMoment, state_of, first_moment}
use Rattle.bs_chip.specs.Lockstep.{IsFirstIn, NoneReached}
use Rattle.bs_report.specs.declared.report.Cand.{Cand}
use Rattle.bs_report.specs.declared.report.ListEnd.{ListEnd}
use Rattle.bs_report.specs.declared.report.ListEnd.TheVariants.{Finished, Candidates, Conflicts}
use Rattle.bs_report.specs.Step.{listed}
use Rattle.bs_preimage.specs.Listed.{IsRightCand}
use Rattle.bs_preimage_recorded.specs.declared.search.Sought.{Sought}
use Rattle.bs_preimage_recorded.specs.declared.search.Sought.TheVariants.{Found, NoMoment, Cut, Unsaid}
use Rattle.bs_preimage_recorded.specs.declared.search.TheConstants.{MAX_ASKS}
use Rattle.bs_preimage_recorded.specs.Search.{asked_in, alike_before, IsUnknownAt, StaysOpen}
use Rattle.bs_loop.specs.declared.known.SearchAnswer.{SearchAnswer}
use Rattle.bs_loop.specs.declared.known.KnownCand.{KnownCand}
use Rattle.bs_loop.specs.declared.known.SearchExtent.{SearchExtent}
use Rattle.bs_loop.specs.declared.known.SearchExtent.TheVariants.{Whole, Limited, Unanswered}
use Rattle.bs_loop.specs.declared.known.Sight.{Sight}
use Rattle.bs_loop.specs.declared.known.Sight.TheVariants.{Told, Untold}

-- the moment before a moment above cycle 0
abbrev pub floor_of : Option Moment → Option Moment
floor_of None = None
floor_of (Some m) = if m.cycle == 0 then None else Some (moment m.run (m.cycle - 1))

-- The candidate that was found, or else the one before the present, whose place this is; and how far the moments before it were looked at.
abbrev pub known_by : Sought → Option Moment → Option Cand → KnownCand
known_by (Found f) place floor = record { cand = Some f.cand; answer = record { first = Some (moment f.run f.cycle); reach = Whole } }
known_by NoMoment place floor = record { cand = floor; answer = record { first = place; reach = Whole } }
known_by (Cut m) place floor = record { cand = floor; answer = record { first = None; reach = Limited m } }
known_by (Unsaid m) place floor = record { cand = floor; answer = record { first = None; reach = Unanswered m } }

-- the candidate has the state of the first moment of any run in one of these states
pub record IsOfFirst (r : Recording) (states : List (List Bool)) (first : Option Moment) (cand : Cand) : Type 0 where
  pub there : Moment
  pub is : first ≡ Some there
  pub first_in : IsFirstIn r.circuit r.runs states there
  pub state : cand.state ≡ state_of r.circuit r.runs there

-- no run is in one of these states
pub record IsOfNone (r : Recording) (states : List (List Bool)) (first : Option Moment) : Type 0 where
  pub is : first ≡ None
  pub none : NoneReached r.circuit r.runs states

-- No moment before one is in one of these states, and of as many of them as a search may ask about the signature has the hash of the stored
-- one.
pub record IsCutFar (r : Recording) (states : List (List Bool)) (stored : List Bool) (m : Moment) : Type 0 where
  pub stays : StaysOpen r states stored m
  pub far : MAX_ASKS ≤ alike_before r stored m

-- No moment before one is in a predecessor of the present with these stored signatures. Whether this one is stays unknown: the solve of that
-- question spent its budget, which is b, or it cannot be asked. The moment's signature has the hash of the stored one.
pub record IsLeftOpen (r : Recording) (present : Seen) (stored : List Bool) (older : Option (List Bool)) (b : ℕ) (m : Moment) : Type 0 where
  pub stays : StaysOpen r (asked_in r present stored older) stored m
  pub unknown : IsUnknownAt r present stored older b m

-- How far the recorded moments were searched for a predecessor of the present with these stored signatures, where b is the budget of a solve:
-- the known candidate is of the first of all, or no moment is in one; or the search was cut.
abbrev pub Reaches : Recording → Seen → List Bool → Option (List Bool) → ℕ → Option Cand → Option Moment → SearchExtent → Type 0
Reaches r present stored older b known first Whole =
    MatchOption known (IsOfNone r (asked_in r present stored older) first) (IsOfFirst r (asked_in r present stored older) first)
Reaches r present stored older b known first (Limited m) = IsCutFar r (asked_in r present stored older) stored m
Reaches r present stored older b known first (Unanswered m) = IsLeftOpen r present stored older b m

-- a candidate is known that has the state of a moment before the cycle of another
pub record HasSooner (r : Recording) (known : Option Cand) (m : Moment) : Type 0 where
  pub cand : Cand
  pub is : known ≡ Some cand
  pub there : Moment
  pub recorded : IsMoment r.runs there
  pub sooner : there.cycle < m.cycle
  pub state : cand.state ≡ state_of r.circuit r.runs there

-- A known candidate is right, and is what the search has reached, where b is the budget of a solve. Where the present is at a moment above
-- cycle 0, one of an earlier cycle is known.
pub record IsKnown (r : Recording) (now : Dump) (stored : List Bool) (b : ℕ) (at : Option Moment) (known : Option Cand) (answer : SearchAnswer) :
    Type 0 where
  pub right : IfSome known (IsRightCand r.circuit r.choice now.state stored now.older)
  pub reach : Reaches r now.state stored now.older b known answer.first answer.reach
  pub sooner : (m : Moment) → at ≡ Some m → 1 ≤ m.cycle → HasSooner r known m

-- an answer was given
pub record IsAsked (r : Recording) (now : Dump) (stored : List Bool) (b : ℕ) (at : Option Moment) (known : Option Cand)
    (answer : Option SearchAnswer) : Type 0 where
  pub given : SearchAnswer
  pub is : answer ≡ Some given
  pub known_is : IsKnown r now stored b at known given

-- A list ended before its last place was left, and nothing was asked; or what is known is so.
pub record IsAnswered (r : Recording) (now : Dump) (stored : List Bool) (b : ℕ) (at : Option Moment) (end : ListEnd) (known : Option Cand)
    (answer : Option SearchAnswer) : Type 0 where
  pub either : ((answer ≡ None) × (end ≢ Candidates)) ⊎ IsAsked r now stored b at known answer

-- how far the search came for a list that may have asked: what is not asked about is all in the list
abbrev pub reach_by : Option SearchAnswer → SearchExtent
reach_by None = Whole
reach_by (Some answer) = answer.reach

-- ---- where a list is met

abbrev pub seen_at : Option Moment → SearchExtent → Sight
seen_at first Whole = Told first
seen_at first (Limited m) = Untold
seen_at first (Unanswered m) = Untold

-- what is seen of a list that has ended so: a whole search found the first moment, unless the list ended with conflicts
abbrev pub seen_by : Option SearchAnswer → ListEnd → Sight
seen_by None end = Untold
seen_by (Some answer) (Finished id) = seen_at answer.first answer.reach
seen_by (Some answer) Candidates = seen_at answer.first answer.reach
seen_by (Some answer) Conflicts = Untold

-- the same where the present is at a moment
abbrev pub sight_by : Option Moment → Option SearchAnswer → ListEnd → Sight
sight_by None answer end = Untold
sight_by (Some m) answer end = seen_by answer end

-- what is seen is so
abbrev pub Sees : Recording → List Cand → Sight → Type 0
Sees r cands (Told first) = (first_moment r.circuit r.runs (listed cands) ≡ first) × IfSome first (IsMoment r.runs)
Sees r cands Untold = Unit {0}
