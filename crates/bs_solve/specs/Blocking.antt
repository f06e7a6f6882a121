-- A clause that comes while literals are assigned.
use Rattle.std.specs.Prelude.{◌≡◌, ◌≢◌, ◌⊎◌, ℕ, ◌<◌, ◌≤◌, List, [], ◌∷◌, ◌++◌, take, length, Some, None, Contains, slice_get}
use Rattle.bs_clause.specs.Literal.{Literal, Clause}
use Rattle.bs_arena.specs.Arena.{Held, literals_at}
use Rattle.bs_watch.specs.declared.watch.Level.{Level}
use Rattle.bs_watch.specs.Trail.{IsFalseOn, IsOpenOn}
use Rattle.bs_watch.specs.Places.{Place, literals_of, IsOnLevel}
use Rattle.bs_watch.specs.Choice.{AreHighest}
use Rattle.bs_watch.specs.Watch.{WatchState}
use Rattle.bs_solve_lemmas.specs.ProofLog.{ProofLog}
use Rattle.bs_solve_lemmas.specs.Search.{assumed}
use Rattle.bs_solve.specs.declared.blocking.Retreat.{Retreat}
use Rattle.bs_solve.specs.declared.blocking.Retreat.TheVariants.{Bottom, Implied, Open}
use Rattle.bs_log.specs.declared.origin.Origin.TheVariants.{Blocked}
use Rattle.bs_log.specs.Refusal.{entry_of}
use Rattle.bs_solve.specs.declared.database.Database.{Database}
use Rattle.bs_solve.specs.Database.{entries, HasJoined}
use Rattle.bs_solve.specs.Backjump.{IsOpenYet}
use Rattle.bs_solve.specs.Pausing.{IsKept}

-- the first two literals are those that became false last
pub record AreLast (places : List Place) (c : Clause) : Type 0 where
  pub long : 2 ≤ length c
  pub first : Literal
  pub second : Literal
  pub at_first : slice_get c 0 ≡ Some first
  pub at_second : slice_get c 1 ≡ Some second
  pub highest : AreHighest places c
  pub lost : IsFalseOn (literals_of places) first
  pub high : ℕ
  pub low : ℕ
  pub on_first : IsOnLevel places first high
  pub on_second : IsOnLevel places second low

-- a retreat for two levels: the lower one, where it is lower; the one before the higher one, where it is not
abbrev pub IsBetween : ℕ → ℕ → Retreat → Type 0
IsBetween high low Bottom = Unit {0}
IsBetween high low (Implied n) = (n ≡ low) × (1 ≤ n) × (n < high)
IsBetween high low (Open n) = (1 ≤ n) × (n < high) × (n < low)

-- one of the levels of the first two literals at which the clause has one open literal, or two
abbrev pub IsRetreat : List Place → Clause → Retreat → Type 0
IsRetreat places c Bottom = Unit {0}
IsRetreat places c (Implied n) = (l : AreLast places c) × IsBetween l.high l.low (Implied n)
IsRetreat places c (Open n) = (l : AreLast places c) × IsBetween l.high l.low (Open n)

-- the clause implies its first literal at the end of the level, which has come, and the literal was assigned
pub record HasImplied (old new : WatchState) (clauses : List Held) (shorts more : List ℕ) (r : ℕ) : Type 0 where
  pub literal : Literal
  pub level : ℕ
  pub end : Level
  pub middle : WatchState
  pub two : 2 ≤ length (literals_at clauses r)
  pub first : slice_get (literals_at clauses r) 0 ≡ Some literal
  pub lost : IsFalseOn (literals_of old.trail.places) literal
  pub one : 1 ≤ level
  pub at : slice_get old.levels level ≡ Some end
  pub alone : (m : Literal) → Contains (literals_at clauses r) m → (m ≡ literal) ⊎ IsFalseOn (literals_of (take end.start old.trail.places)) m
  pub lowest : (i : ℕ) (v : Level) → 1 ≤ i → i < level → slice_get old.levels i ≡ Some v →
      IsOpenYet (take v.start old.trail.places) (literals_at clauses r) literal
  pub free : IsOpenOn (literals_of (take end.start old.trail.places)) literal
  pub levels : middle.levels ≡ take level old.levels
  pub places : middle.trail.places ≡
      take end.start old.trail.places ++ record { literal = literal; reason = Some r; level = length (take level old.levels) } ∷ []
  pub vars : middle.trail.vars ≡ old.trail.vars
  pub lists : middle.lists ≡ old.lists
  pub joined : HasJoined middle new shorts more clauses r

-- the trail went back to the end of a level, above the first, at which two literals of the clause are open
pub record HasOpened (old new : WatchState) (clauses : List Held) (shorts more : List ℕ) (r : ℕ) : Type 0 where
  pub first : Literal
  pub second : Literal
  pub level : ℕ
  pub end : Level
  pub middle : WatchState
  pub two : 2 ≤ length (literals_at clauses r)
  pub other : first ≢ second
  pub stands_first : Contains (literals_at clauses r) first
  pub stands_second : Contains (literals_at clauses r) second
  pub open_first : IsOpenOn (literals_of (take end.start old.trail.places)) first
  pub open_second : IsOpenOn (literals_of (take end.start old.trail.places)) second
  pub one : 1 ≤ level
  pub at : slice_get old.levels level ≡ Some end
  pub levels : middle.levels ≡ take level old.levels
  pub places : middle.trail.places ≡ take end.start old.trail.places
  pub vars : middle.trail.vars ≡ old.trail.vars
  pub lists : middle.lists ≡ old.lists
  pub joined : HasJoined middle new shorts more clauses r

-- nothing is assigned but what stands for good
pub record HasEmptied (old new : WatchState) (clauses : List Held) (shorts more : List ℕ) (r : ℕ) : Type 0 where
  pub middle : WatchState
  pub levels : middle.levels ≡ []
  pub first : (v : Level) → slice_get old.levels 0 ≡ Some v → middle.trail.places ≡ take v.start old.trail.places
  pub none : old.levels ≡ [] → middle.trail.places ≡ old.trail.places
  pub vars : middle.trail.vars ≡ old.trail.vars
  pub lists : middle.lists ≡ old.lists
  pub joined : HasJoined middle new shorts more clauses r

-- the trail went back to the retreat, and the clause has joined
abbrev pub HasGoneFor : Retreat → WatchState → WatchState → List Held → List ℕ → List ℕ → ℕ → Type 0
HasGoneFor Bottom old new clauses shorts more r = HasEmptied old new clauses shorts more r
HasGoneFor (Implied n) old new clauses shorts more r = HasImplied old new clauses shorts more r
HasGoneFor (Open n) old new clauses shorts more r = HasOpened old new clauses shorts more r

-- what was kept is kept with the block, wherever the old clauses stood
pub record HasHeld (old new : WatchState) (before after : List Held) (database more : Database) (id : ℕ) (c : Clause) : Type 0 where
  pub vars : new.trail.vars ≡ old.trail.vars
  pub keeps : (proof other : ProofLog) → entry_of (entries proof) id ≡ None →
      entries other ≡ entries proof ++ record { id = id; origin = Blocked; literals = c } ∷ [] →
      assumed other ≡ assumed proof → IsKept proof old before database → IsKept other new after more

-- whatever the proof log
abbrev pub IsSomeKept : WatchState → List Held → Database → Type 0
IsSomeKept w clauses database = (proof : ProofLog) × IsKept proof w clauses database
