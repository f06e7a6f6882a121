-- A conflict in a search, and what is learnt from it.
use Rattle.std.specs.Prelude.{◌≡◌, ℕ, true, List, [], take, All}
use Rattle.bs_clause.specs.Range.{HasVariables}
use Rattle.bs_log.specs.Refusal.{has_distinct_variables}
use Rattle.bs_arena.specs.Arena.{Held}
use Rattle.bs_watch.specs.Trail.{IsTrueOn}
use Rattle.bs_watch.specs.Places.{literals_of}
use Rattle.bs_watch.specs.Watch.{WatchState, Serves}
use Rattle.bs_solve_lemmas.specs.Reasons.{IsConflictAt}
use Rattle.bs_solve_lemmas.specs.Places.{AreWarranted, logged_literals}
use Rattle.bs_solve_lemmas.specs.ProofLog.{ProofLog, standing}
use Rattle.bs_solve_lemmas.specs.Search.{assumed, HasLearnt}
use Rattle.bs_solve.specs.Database.{HoldsEntries, entries}
use Rattle.bs_solve.specs.Ground.{IsGround}
use Rattle.bs_solve.specs.declared.database.Database.{Database}
use Rattle.bs_solve.specs.Seen.{seen}
use Rattle.bs_solve.specs.Running.{seen_trail, IsRunning}

-- a search whose trail makes a clause false
pub record IsInConflict (base : ℕ) (proof : ProofLog) (w : WatchState) (clauses : List Held) (database : Database) (conflict : ℕ) : Type 0 where
  pub running : IsRunning base proof w clauses database
  pub sound : AreWarranted (standing proof) base (assumed proof) (seen w.trail.places)
  pub given : All (IsTrueOn (logged_literals (take base (seen w.trail.places)))) (assumed proof)
  pub range : All (HasVariables w.trail.vars) (standing proof)
  pub distinct : All (λ c. has_distinct_variables c ≡ true) (standing proof)
  pub clash : IsConflictAt clauses (literals_of w.trail.places) conflict

-- whatever the length of the first level
abbrev pub IsSomeConflict : ProofLog → WatchState → List Held → Database → ℕ → Type 0
IsSomeConflict proof w clauses database conflict = (base : ℕ) × IsInConflict base proof w clauses database conflict

-- the log has one more lemma, and the search goes on from an earlier level
pub record LearnsFrom (old new : ProofLog) (before after : WatchState) (clauses later : List Held) (database more : Database) (conflict : ℕ) : Type 0 where
  pub vars : after.trail.vars ≡ before.trail.vars
  pub learnt : (base : ℕ) → IsInConflict base old before clauses database conflict →
      HasLearnt base old new (seen_trail before) (seen_trail after)
  pub running : (base : ℕ) → IsInConflict base old before clauses database conflict → IsRunning base new after later more

-- nothing is assigned but what stands for good, and the clauses that stand are in the arena and are watched
pub record IsAtRest (proof : ProofLog) (w : WatchState) (clauses : List Held) (database : Database) : Type 0 where
  pub holds_entries : HoldsEntries w.lists clauses database (entries proof)
  pub serves : Serves w clauses
  pub ground : IsGround (entries proof) database.shorts.items clauses w.trail.places
  pub levels : w.levels ≡ []
