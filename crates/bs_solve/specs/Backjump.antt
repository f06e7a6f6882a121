-- A learnt clause in the arena and on the trail.
use Rattle.std.specs.Prelude.{◌≡◌, ◌≢◌, ◌⊎◌, ℕ, ◌<◌, ◌≤◌, true, List, [], ◌∷◌, ◌++◌, take, length, Some, None, Contains, IsPermutation, slice_get}
use Rattle.bs_clause.specs.Literal.{Literal, Clause}
use Rattle.bs_clause.specs.Range.{HasVariables}
use Rattle.bs_log.specs.Refusal.{has_distinct_variables}
use Rattle.bs_arena.specs.Arena.{Held, held_at, literals_at, KeepsOthers}
use Rattle.bs_watch.specs.declared.watch.Level.{Level}
use Rattle.bs_watch.specs.Trail.{IsFalseOn, IsOpenOn}
use Rattle.bs_watch.specs.Places.{Place, literals_of, IsOnLevel}
use Rattle.bs_watch.specs.Choice.{AreHighest}
use Rattle.bs_watch.specs.Watch.{WatchState}
use Rattle.bs_solve_lemmas.specs.Reasons.{last_start, IsSpared}
use Rattle.bs_solve_lemmas.specs.ImplicationPoint.{IsPoint}
use Rattle.bs_log.specs.declared.origin.Origin.{Origin}
use Rattle.bs_log.specs.declared.origin.Origin.TheVariants.{Learnt}
use Rattle.bs_solve.specs.declared.database.Database.{Database}
use Rattle.bs_solve.specs.Database.{is_live, id_in, HasJoined, rows_for}
use Rattle.bs_solve.specs.Begun.{AreBegun}

-- the level on which the second literal became false, the first two being those that became so last, or the first level for a
-- clause of one literal
pub record IsBackLevel (places : List Place) (c : Clause) (n : ℕ) : Type 0 where
  pub short : length c < 2 → n ≡ 1
  pub highest : 2 ≤ length c → AreHighest places c
  pub on : (m : Literal) → slice_get c 1 ≡ Some m → IsOnLevel places m n

-- a clause that is learnt from a conflict above the first level
pub record IsLearntClause (base : ℕ) (w : WatchState) (lits : Clause) : Type 0 where
  pub deep : 2 ≤ length w.levels
  pub begun : AreBegun base w.levels w.trail.places
  pub point : IsPoint w.trail.places (last_start w.levels) lits
  pub spared : (v : Level) → slice_get w.levels 0 ≡ Some v → IsSpared (take v.start w.trail.places) lits
  pub range : HasVariables w.trail.vars lits
  pub distinct : has_distinct_variables lits ≡ true

-- another literal than this one was not false on the front
pub record IsOpenYet (front : List Place) (lits : Clause) (l : Literal) : Type 0 where
  pub literal : Literal
  pub stands : Contains lits literal
  pub other : literal ≢ l
  pub not_false : ¬ IsFalseOn (literals_of front) literal

-- The trail went back to the first level at whose end the clause implies its first literal, and that literal was assigned; the
-- clause is in the arena, and attached or listed.
pub record HasTaken (old new : WatchState) (before after : List Held) (database more : Database) (id : ℕ) (origin : Origin) (lits : Clause)
    (l : Literal) : Type 0 where
  pub ref : ℕ
  pub level : ℕ
  pub end : Level
  pub middle : WatchState
  pub others : KeepsOthers before after ref
  pub fresh : held_at before ref ≡ None
  pub live : is_live after ref ≡ true
  pub id_is : id_in after ref ≡ id
  pub same : IsPermutation lits (literals_at after ref)
  pub one : 1 ≤ level
  pub at : slice_get old.levels level ≡ Some end
  pub alone : (m : Literal) → Contains lits m → (m ≡ l) ⊎ IsFalseOn (literals_of (take end.start old.trail.places)) m
  pub lowest : (i : ℕ) (v : Level) → 1 ≤ i → i < level → slice_get old.levels i ≡ Some v → IsOpenYet (take v.start old.trail.places) lits l
  pub unit : length (literals_at after ref) < 2 → level ≡ 1
  pub free : IsOpenOn (literals_of (take end.start old.trail.places)) l
  pub levels : middle.levels ≡ take level old.levels
  pub places : middle.trail.places ≡ take end.start old.trail.places ++ record { literal = l; reason = Some ref; level = length (take level old.levels) } ∷ []
  pub vars : middle.trail.vars ≡ old.trail.vars
  pub lists : middle.lists ≡ old.lists
  pub joined : HasJoined middle new database.shorts.items more.shorts.items after ref
  pub rows : more.rows.items ≡ database.rows.items ++ rows_for id ref origin

-- whatever the length of the first level
abbrev pub IsSomeLearntClause : WatchState → Clause → Type 0
IsSomeLearntClause w lits = (base : ℕ) × IsLearntClause base w lits

-- and whatever the first literal
pub record JumpsBack (old new : WatchState) (before after : List Held) (database more : Database) (id : ℕ) (lits : Clause) : Type 0 where
  pub taken : (l : Literal) → slice_get lits 0 ≡ Some l → HasTaken old new before after database more id Learnt lits l
