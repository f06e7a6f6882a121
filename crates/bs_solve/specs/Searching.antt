-- A search from its first level to its end.
use Rattle.std.specs.Prelude.{◌≡◌, ℕ, ◌≤◌, Bool, true, false, List, [], ◌∷◌, length, Some, None, All, slice_get, take, Contains}
use Rattle.bs_clause.specs.Literal.{Literal, negation}
use Rattle.bs_clause.specs.Range.{HasVariables}
use Rattle.bs_log.specs.Refusal.{has_distinct_variables}
use Rattle.bs_arena.specs.Arena.{Held}
use Rattle.bs_watch.specs.declared.visit.Outcome.{Outcome}
use Rattle.bs_watch.specs.declared.watch.Level.{Level}
use Rattle.bs_watch.specs.Places.{Place, IsUnassigned, AreApart, literals_of}
use Rattle.bs_watch.specs.Scene.{Advances, Propagated}
use Rattle.bs_watch.specs.Watch.{WatchState, Serves, KeepsService, decided, assigned, scene}
use Rattle.bs_solve_lemmas.specs.Reasons.{IsReasoned, IsConflictAt}
use Rattle.bs_solve_lemmas.specs.Places.{AreWarranted}
use Rattle.bs_solve_lemmas.specs.Point.{AreImplied}
use Rattle.bs_solve_lemmas.specs.ProofLog.{ProofLog, standing}
use Rattle.bs_solve_lemmas.specs.declared.answer.Answer.{Answer}
use Rattle.bs_solve_lemmas.specs.Search.{assumed, HasRefuted}
use Rattle.bs_solve_lemmas.specs.Ending.{Ends}
use Rattle.bs_solve_lemmas.specs.Values.{AreAssigned}
use Rattle.bs_solve.specs.Database.{HoldsEntries, entries}
use Rattle.bs_solve.specs.Ground.{IsGround}
use Rattle.bs_solve.specs.declared.database.Database.{Database}
use Rattle.bs_solve.specs.Seen.{seen}
use Rattle.bs_solve.specs.Running.{InRound}
use Rattle.bs_solve.specs.Learning.{IsAtRest}
use Rattle.bs_solve.specs.Pausing.{IsLeft}

-- a trail of one level that makes a clause false
pub record IsFirstConflict (base : ℕ) (proof : ProofLog) (w : WatchState) (clauses : List Held) (database : Database) (conflict : ℕ) : Type 0 where
  pub holds_entries : HoldsEntries w.lists clauses database (entries proof)
  pub serves : Serves w clauses
  pub reasoned : IsReasoned clauses w.trail.places
  pub sound : AreWarranted (standing proof) base (assumed proof) (seen w.trail.places)
  pub implied : AreImplied (seen w.trail.places) base
  pub range : All (HasVariables w.trail.vars) (standing proof)
  pub distinct : All (λ c. has_distinct_variables c ≡ true) (standing proof)
  pub clash : IsConflictAt clauses (literals_of w.trail.places) conflict
  pub some : 1 ≤ length w.levels
  pub ground : (v : Level) → slice_get w.levels 0 ≡ Some v → IsGround (entries proof) database.shorts.items clauses (take v.start w.trail.places)

-- an assumption whose negation stands for good
pub record IsFailedAssumption (proof : ProofLog) (w : WatchState) (clauses : List Held) (database : Database) (denied : Literal) : Type 0 where
  pub holds_entries : HoldsEntries w.lists clauses database (entries proof)
  pub serves : Serves w clauses
  pub level : Level
  pub levels : w.levels ≡ level ∷ []
  pub ground : IsGround (entries proof) database.shorts.items clauses (take level.start w.trail.places)
  pub at : ℕ
  pub place : Place
  pub there : slice_get (take level.start w.trail.places) at ≡ Some place
  pub is : place.literal ≡ negation denied
  pub assumes : Contains (assumed proof) denied
  pub range : All (HasVariables w.trail.vars) (standing proof)

-- whatever the length of the first level
abbrev pub IsSomeFirstConflict : ProofLog → WatchState → List Held → Database → ℕ → Type 0
IsSomeFirstConflict proof w clauses database conflict = (base : ℕ) × IsFirstConflict base proof w clauses database conflict

abbrev pub IsSomeRound : ProofLog → ℕ → ℕ → ℕ → ProofLog → WatchState → List Held → Database → Outcome → Type 0
IsSomeRound old vars conflicts limit proof w clauses database outcome =
    (base : ℕ) × InRound old vars base conflicts limit proof w clauses database outcome

-- an open literal was assumed on a new level
pub record HasDecided (old new : WatchState) : Type 0 where
  pub literal : Literal
  pub free : IsUnassigned old.trail literal
  pub is : new ≡ assigned (decided old) literal None
  pub serves : KeepsService old new

-- or each variable has a value
abbrev pub Decides : WatchState → WatchState → Bool → Type 0
Decides old new true = HasDecided old new
Decides old new false = (new ≡ old) × AreAssigned (literals_of old.trail.places) old.trail.vars

-- what was implied has been assigned, until no clause is unit, or one is false
pub record HasPropagated (old new : WatchState) (before after : List Held) (outcome : Outcome) : Type 0 where
  pub advances : Advances (length old.levels) (scene old before) (scene new after)
  pub levels : new.levels ≡ old.levels
  pub serves : Serves new after
  pub apart : AreApart new.trail.places
  pub room : length new.trail.places ≤ new.trail.vars
  pub ends : Propagated (scene new after) outcome

-- the search has ended, and its trail stays where it found values
pub record IsOver (old new : ProofLog) (vars limit : ℕ) (w : WatchState) (clauses : List Held) (database : Database) (answer : Answer) : Type 0 where
  pub ends : Ends old new vars limit answer
  pub left : IsLeft answer new w clauses database
  pub vars_is : w.trail.vars ≡ vars
  pub range : All (HasVariables vars) (standing new)
  pub distinct : All (λ c. has_distinct_variables c ≡ true) (standing new)

-- the lemma of the id ends the step, and nothing is assigned
pub record HasEndedBy (old new : ProofLog) (vars : ℕ) (w : WatchState) (clauses : List Held) (database : Database) (id : ℕ) : Type 0 where
  pub refuted : HasRefuted old new id
  pub rest : IsAtRest new w clauses database
  pub vars_is : w.trail.vars ≡ vars
