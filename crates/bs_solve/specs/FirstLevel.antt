-- The first level of a search: the assumptions, the literals of short clauses, and what follows.
use Rattle.std.specs.Prelude.{◌≡◌, ℕ, ◌<◌, Bool, true, false, List, ◌++◌, length, Option, Some, None, is_some, All, Contains}
use Rattle.bs_clause.specs.Literal.{Literal, Clause}
use Rattle.bs_clause.specs.Range.{HasVariables}
use Rattle.bs_arena.specs.Arena.{Held, held_at, literals_at}
use Rattle.bs_watch.specs.declared.visit.Outcome.{Outcome}
use Rattle.bs_watch.specs.declared.visit.Outcome.TheVariants.{Quiet, Conflict}
use Rattle.bs_watch.specs.Trail.{IsTrueOn, IsFalseOn, IsConflict}
use Rattle.bs_watch.specs.Places.{Place, AreApart, literals_of}
use Rattle.bs_watch.specs.Look.{HasTrue}
use Rattle.bs_watch.specs.Scene.{Grows}
use Rattle.bs_watch.specs.Watch.{WatchState, KeepsService}
use Rattle.bs_solve_lemmas.specs.Reasons.{IsConflictAt}
use Rattle.bs_solve.specs.declared.first_level.LevelStart.{LevelStart}
use Rattle.bs_solve.specs.declared.first_level.LevelStart.TheVariants.{Failed, Clash, Assigned}

-- some of the assumptions took places
pub record HasAssumed (old new : WatchState) (assumptions : Clause) : Type 0 where
  pub more : List Place
  pub places : new.trail.places ≡ old.trail.places ++ more
  pub vars : new.trail.vars ≡ old.trail.vars
  pub levels : new.levels ≡ old.levels
  pub lists : new.lists ≡ old.lists
  pub free : All (λ p. (p.reason ≡ None) × Contains assumptions p.literal) more
  pub serves : KeepsService old new

-- the assumption is false, or true
abbrev pub IsAssumed : WatchState → Literal → Bool → Type 0
IsAssumed w l true = IsFalseOn (literals_of w.trail.places) l
IsAssumed w l false = IsTrueOn (literals_of w.trail.places) l

-- one of the assumptions is false, or all are true
abbrev pub AreAssumed : WatchState → Clause → Option Literal → Type 0
AreAssumed w assumptions (Some l) = Contains assumptions l × IsFalseOn (literals_of w.trail.places) l
AreAssumed w assumptions None = All (IsTrueOn (literals_of w.trail.places)) assumptions

-- further literals were assigned, each implied by a live clause, and nothing else has changed
pub record HasGrown (clauses : List Held) (old new : WatchState) : Type 0 where
  pub vars : new.trail.vars ≡ old.trail.vars
  pub levels : new.levels ≡ old.levels
  pub lists : new.lists ≡ old.lists
  pub grows : Grows clauses (length old.levels) old.trail.places new.trail.places
  pub serves : KeepsService old new

-- the clauses are live, short, and over the variables
pub record AreShort (vars : ℕ) (clauses : List Held) (shorts : List ℕ) : Type 0 where
  pub live : All (λ r. is_some (held_at clauses r) ≡ true) shorts
  pub few : All (λ r. length (literals_at clauses r) < 2) shorts
  pub range : All (λ r. HasVariables vars (literals_at clauses r)) shorts

-- the short clause is false, or has a true literal
abbrev pub IsShortAssigned : List Held → WatchState → ℕ → Bool → Type 0
IsShortAssigned clauses w r true = IsConflict (literals_of w.trail.places) (literals_at clauses r)
IsShortAssigned clauses w r false = HasTrue (literals_of w.trail.places) (literals_at clauses r)

-- each of the short clauses has a true literal
pub record AllSatisfied (clauses : List Held) (w : WatchState) (shorts : List ℕ) : Type 0 where
  pub each : (r : ℕ) → Contains shorts r → HasTrue (literals_of w.trail.places) (literals_at clauses r)

-- or one of them is false
abbrev pub AssignsShorts : List Held → WatchState → List ℕ → Outcome → Type 0
AssignsShorts clauses w shorts Quiet = AllSatisfied clauses w shorts
AssignsShorts clauses w shorts (Conflict r) = IsConflictAt clauses (literals_of w.trail.places) r

-- an assumption is false, or a short clause, or all of both are true
abbrev pub Starts : List Held → WatchState → WatchState → List ℕ → Clause → LevelStart → Type 0
Starts clauses mid new shorts assumptions (Failed l) = Contains assumptions l × IsFalseOn (literals_of mid.trail.places) l
Starts clauses mid new shorts assumptions (Clash r) = All (IsTrueOn (literals_of mid.trail.places)) assumptions ×
    IsConflictAt clauses (literals_of new.trail.places) r
Starts clauses mid new shorts assumptions Assigned = All (IsTrueOn (literals_of mid.trail.places)) assumptions × AllSatisfied clauses new shorts

-- the assumptions came, and then the literals of the short clauses
pub record HasBegunLevel (old new : WatchState) (clauses : List Held) (shorts : List ℕ) (assumptions : Clause) (start : LevelStart) : Type 0 where
  pub middle : WatchState
  pub assumes : HasAssumed old middle assumptions
  pub apart : AreApart middle.trail.places
  pub grown : HasGrown clauses middle new
  pub starts : Starts clauses middle new shorts assumptions start
