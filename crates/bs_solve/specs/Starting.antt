-- A solver over the clauses that it was given.
use Rattle.std.specs.Prelude.{◌≡◌, ℕ, ◌+◌, ◌-◌, ◌*◌, ◌≤◌, true, false, List, Contains}
use Rattle.bs_log.specs.History.{Entry}
use Rattle.bs_arena.specs.Arena.{Held, Content, live_words, literals_at}
use Rattle.bs_watch.specs.Watch.{WatchState}
use Rattle.bs_solve_lemmas.specs.Marks.{MarkState, IsClear}
use Rattle.bs_solve_lemmas.specs.declared.stage.Stage.{Stage}
use Rattle.bs_solve_lemmas.specs.declared.stage.Stage.TheVariants.{Idle, Begun, Solved, Blocked, Ended, Stopped}
use Rattle.bs_solve_lemmas.specs.ProofLog.{ProofLog}
use Rattle.bs_solve_lemmas.specs.Stages.{is_solved}
use Rattle.bs_solve_lemmas.specs.Solver.{SolverState, IsReady}
use Rattle.bs_solve.specs.declared.dropping.CountedRows.{CountedRows}
use Rattle.bs_solve.specs.Dropping.{marked, AreKnownIn}
use Rattle.bs_solve.specs.declared.database.Database.{Database}
use Rattle.bs_solve.specs.Database.{entries, is_live, id_in, IsSpelled, IsClauseOf}
use Rattle.bs_solve.specs.Ground.{IsOwn}
use Rattle.bs_solve.specs.Learning.{IsAtRest}
use Rattle.bs_solve.specs.Pausing.{IsKept}

-- the activation literal of a step that has had no solve has no place in the watch yet
abbrev pub new_variables : Stage → ℕ
new_variables Begun = 1
new_variables _ = 0

-- between the solves of a step the trail may stay, and else nothing is assigned but what stands for good
abbrev pub IsLeftAt : Stage → ProofLog → WatchState → List Held → Database → Type 0
IsLeftAt Idle proof w clauses database = IsAtRest proof w clauses database
IsLeftAt Begun proof w clauses database = IsAtRest proof w clauses database
IsLeftAt Solved proof w clauses database = IsKept proof w clauses database
IsLeftAt Blocked proof w clauses database = IsKept proof w clauses database
IsLeftAt (Ended id) proof w clauses database = IsAtRest proof w clauses database
IsLeftAt Stopped proof w clauses database = IsAtRest proof w clauses database

-- while memory has not run out, the clauses that stand are in the arena and are watched, and no variable has a mark
pub record IsWhole (s : SolverState) (w : WatchState) (clauses : List Held) (database : Database) (marks : MarkState) : Type 0 where
  pub ready : IsReady s
  pub left : s.failed ≡ false → IsLeftAt s.stage s.proof w clauses database
  pub vars : s.failed ≡ false → w.trail.vars + new_variables s.stage ≡ s.vars
  pub clear : s.failed ≡ false → IsClear (w.trail.vars + 1) marks

-- what was at rest is so still, and nothing has changed where no variable was missing
pub record KeepsRest (old new : WatchState) (vars : ℕ) : Type 0 where
  pub keeps : (proof : ProofLog) (clauses : List Held) (database : Database) → IsAtRest proof old clauses database → IsAtRest proof new clauses database
  pub same : old.trail.vars ≡ vars → new ≡ old

-- While memory has not run out: what is known of the lemmas holds for the activation literals given so far, and between two steps the arena
-- has at most twice the words of its live clauses.
pub record IsEngine (s : SolverState) (w : WatchState) (a : Content) (database : Database) (marks : MarkState) (own : ℕ) (known : CountedRows) : Type 0 where
  pub whole : IsWhole s w a.clauses database marks
  pub own_is : s.failed ≡ false → own ≡ s.proof.problem.vars
  pub own_clauses : s.failed ≡ false → IsOwn s.proof.problem
  pub knows : s.failed ≡ false → AreKnownIn own (s.vars - own) (marked (entries s.proof)) known.rows known.long
  pub words : s.failed ≡ false → is_solved s.stage ≡ false → a.words ≤ 2 * live_words a.clauses

-- the live clauses of the arena are the clauses that stand, each once, under its id and with its literals in some order
pub record HoldsStanding (clauses : List Held) (es : List Entry) : Type 0 where
  pub spelled : (r : ℕ) → is_live clauses r ≡ true → IsSpelled es (id_in clauses r) (literals_at clauses r)
  pub held : (e : Entry) → Contains es e → (r : ℕ) × IsClauseOf clauses e r
  pub once : (q r : ℕ) → is_live clauses q ≡ true → is_live clauses r ≡ true → id_in clauses q ≡ id_in clauses r → q ≡ r
