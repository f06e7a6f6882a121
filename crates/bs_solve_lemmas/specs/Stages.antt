-- Where a solver stands between two calls, and what its log then looks like.
use Rattle.std.specs.Prelude.{◌≡◌, ℕ, ◌+◌, Bool, true, false, length}
use Rattle.bs_clause.specs.Literal.{Clause}
use Rattle.bs_log.specs.History.{step_of, phase_of, live}
use Rattle.bs_log.specs.Refusal.{in_solve, is_after_block, is_between_steps, passes, is_lemma, entry_of, denies}
use Rattle.bs_log.specs.declared.line.Line.TheVariants.{Solve}
use Rattle.bs_solve_lemmas.specs.declared.stage.Stage.{Stage}
use Rattle.bs_solve_lemmas.specs.declared.stage.Stage.TheVariants.{Idle, Begun, Solved, Blocked, Ended, Stopped}
use Rattle.bs_solve_lemmas.specs.declared.answer.Answer.{Answer}
use Rattle.bs_solve_lemmas.specs.declared.answer.Answer.TheVariants.{Found, Refuted, Spent}
use Rattle.bs_solve_lemmas.specs.ProofLog.{ProofLog, with_line, with_member}
use Rattle.bs_solve_lemmas.specs.Search.{assumed}

abbrev pub is_begun : Stage → Bool
is_begun Begun = true
is_begun _ = false

-- the step has had a solve
abbrev pub is_solved : Stage → Bool
is_solved Idle = false
is_solved Begun = false
is_solved _ = true

abbrev pub stage_of : Answer → Stage
stage_of (Found values) = Solved
stage_of (Refuted id) = Ended id
stage_of Spent = Stopped

-- no step is under way
pub record IsIdle (b : ProofLog) (vars : ℕ) : Type 0 where
  pub phase : is_between_steps (phase_of b.history) ≡ true
  pub vars_is : vars + 1 ≡ b.problem.vars + step_of b.history
  pub steps : length b.problem.steps + 1 ≡ step_of b.history

-- a step has its activation literal and no line yet
pub record IsBegun (b : ProofLog) (vars : ℕ) : Type 0 where
  pub phase : is_between_steps (phase_of b.history) ≡ true
  pub vars_is : vars ≡ b.problem.vars + step_of b.history
  pub steps : length b.problem.steps + 1 ≡ step_of b.history

-- a step has its activation literal and its assumptions
pub record IsInside (b : ProofLog) (vars : ℕ) : Type 0 where
  pub vars_is : vars ≡ b.problem.vars + step_of b.history
  pub steps : length b.problem.steps ≡ step_of b.history

-- the last line is that of a solve, or of a lemma
pub record IsSearched (b : ProofLog) (vars : ℕ) : Type 0 where
  pub inside : IsInside b vars
  pub phase : in_solve (phase_of b.history) ≡ true

pub record IsBlocked (b : ProofLog) (vars : ℕ) : Type 0 where
  pub inside : IsInside b vars
  pub phase : is_after_block (phase_of b.history) ≡ true

-- a solve is under way, and the lemma of the id denies only assumptions
pub record EndsStep (b : ProofLog) (id : ℕ) : Type 0 where
  pub phase : in_solve (phase_of b.history) ≡ true
  pub lemma : passes is_lemma (entry_of (live b.problem b.history) id) ≡ true
  pub ends : passes (λ e. denies (assumed b) e.literals) (entry_of (live b.problem b.history) id) ≡ true

-- the last solve logged a lemma that denies only assumptions
pub record IsEnded (b : ProofLog) (vars id : ℕ) : Type 0 where
  pub searched : IsSearched b vars
  pub lemma : passes is_lemma (entry_of (live b.problem b.history) id) ≡ true
  pub ends : passes (λ e. denies (assumed b) e.literals) (entry_of (live b.problem b.history) id) ≡ true

abbrev pub Fits : Stage → ProofLog → ℕ → Type 0
Fits Idle b vars = IsIdle b vars
Fits Begun b vars = IsBegun b vars
Fits Solved b vars = IsSearched b vars
Fits Blocked b vars = IsBlocked b vars
Fits (Ended id) b vars = IsEnded b vars id
Fits Stopped b vars = IsSearched b vars

-- the proof log as a search begins: the first solve of a step brings its assumptions
abbrev pub begun_proof : Bool → ProofLog → Clause → ProofLog
begun_proof true b assumptions = with_line (with_member b assumptions) Solve
begun_proof false b assumptions = with_line b Solve

-- a solve may begin: it is the first of its step, or a block came since the last one
pub record MayBegin (b : ProofLog) (first : Bool) : Type 0 where
  pub at_first : first ≡ true → (is_between_steps (phase_of b.history) ≡ true) × (length b.problem.steps + 1 ≡ step_of b.history)
  pub again : first ≡ false → is_after_block (phase_of b.history) ≡ true
