-- A search that waits between two solves of a step, its literals assigned.
use Rattle.std.specs.Prelude.{◌≡◌, ◌⊎◌, ℕ, ◌≤◌, List, [], take, length, All, slice_get, Some}
use Rattle.bs_clause.specs.Literal.{Clause}
use Rattle.bs_arena.specs.Arena.{Held}
use Rattle.bs_watch.specs.declared.watch.Level.{Level}
use Rattle.bs_watch.specs.Trail.{IsTrueOn}
use Rattle.bs_watch.specs.Watch.{WatchState}
use Rattle.bs_solve_lemmas.specs.Places.{AreWarranted, logged_literals}
use Rattle.bs_solve_lemmas.specs.ProofLog.{ProofLog, standing}
use Rattle.bs_solve_lemmas.specs.Search.{assumed}
use Rattle.bs_solve_lemmas.specs.declared.answer.Answer.{Answer}
use Rattle.bs_solve_lemmas.specs.declared.answer.Answer.TheVariants.{Found, Refuted, Spent}
use Rattle.bs_solve.specs.declared.database.Database.{Database}
use Rattle.bs_solve.specs.Seen.{seen}
use Rattle.bs_solve.specs.Ground.{IsOff}
use Rattle.bs_solve.specs.Running.{IsRunning}
use Rattle.bs_solve.specs.Learning.{IsAtRest}

-- the trail is sound for the clauses that stand, and the assumptions are true on its first `base` places
pub record IsPaused (base : ℕ) (proof : ProofLog) (w : WatchState) (clauses : List Held) (database : Database) : Type 0 where
  pub running : IsRunning base proof w clauses database
  pub sound : AreWarranted (standing proof) base (assumed proof) (seen w.trail.places)
  pub given : All (IsTrueOn (logged_literals (take base (seen w.trail.places)))) (assumed proof)
  pub low : base ≤ length w.trail.places

-- whatever the length of the first level
abbrev pub IsSomePause : ProofLog → WatchState → List Held → Database → Type 0
IsSomePause proof w clauses database = (base : ℕ) × IsPaused base proof w clauses database

-- nothing is assigned, or the search waits
abbrev pub IsKept : ProofLog → WatchState → List Held → Database → Type 0
IsKept proof w clauses database = IsAtRest proof w clauses database ⊎ IsSomePause proof w clauses database

-- how a search leaves its trail: where values were found, for the next solve of the step
abbrev pub IsLeft : Answer → ProofLog → WatchState → List Held → Database → Type 0
IsLeft (Found values) proof w clauses database = IsKept proof w clauses database
IsLeft (Refuted id) proof w clauses database = IsAtRest proof w clauses database
IsLeft Spent proof w clauses database = IsAtRest proof w clauses database

-- no variable of the clause stands for good
pub record IsGrounded (w : WatchState) (c : Clause) : Type 0 where
  pub none : w.levels ≡ [] → IsOff w.trail.places c
  pub first : (v : Level) → slice_get w.levels 0 ≡ Some v → IsOff (take v.start w.trail.places) c

-- what was kept is at rest, and the variables are the same
pub record GoesToRest (old new : WatchState) : Type 0 where
  pub vars : new.trail.vars ≡ old.trail.vars
  pub keeps : (proof : ProofLog) (clauses : List Held) (database : Database) → IsKept proof old clauses database → IsAtRest proof new clauses database
