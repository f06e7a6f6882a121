-- A log of lengths that lemmas refute, one after another, without a solver.
use Rattle.std.specs.Prelude.{◌≡◌, ℕ, ◌+◌, true, Bool, List, [], ◌∷◌, reverse}
use Rattle.std.specs.List.{AllByRecursion, range_with_len}
use Rattle.bs_scan.specs.declared.seen.Seen.{Seen}
use Rattle.bs_log.specs.declared.line.Line.{Line}
use Rattle.bs_log.specs.declared.line.Line.TheVariants.{Solve, Lemma, Finish, Retire}
use Rattle.bs_log.specs.History.{Problem, History, Entry, phase_of, step_of, live}
use Rattle.bs_log.specs.Refusal.{is_between_steps, is_lemma_or_block}
use Rattle.bs_log.specs.Kept.{is_kept}
use Rattle.bs_log.specs.Lean.{StepsLeaveKept}
use Rattle.bs_log.specs.Steps.{HasNoBlock, finished_in}
use Rattle.bs_solve_lemmas.specs.ProofLog.{IsRecorded}
use Rattle.bs_solve.specs.declared.failure.FailedAssumption.{FailedAssumption}
use Rattle.bs_solve.specs.Budget.{HasFewLemmas}
use Rattle.bs_encode.specs.Encoded.{Encoded}
use Rattle.bs_reach_unrolled.specs.Unrolled.{unrolled}
use Rattle.bs_reach.specs.Search.{problem_over}

-- the lines of a length: a solve, its lemma under this id, and the end
abbrev pub step_lines : ℕ → FailedAssumption → List Line
step_lines id d = Solve ∷ Lemma id d.lits d.hints ∷ Finish id ∷ Retire (id + 1) ∷ []

-- those of a length that no lemma refutes
abbrev pub trial_lines : ℕ → List Line
trial_lines id = Solve ∷ Retire id ∷ []

-- it is kept at the end of a step, if it is a lemma or a block
abbrev pub IsPlain : Problem → Entry → Type 0
IsPlain q e = is_lemma_or_block e ≡ true → (step : ℕ) (entries : List Entry) → is_kept q step entries e ≡ true

-- of the log over k cycles, the steps of the first `count` lengths, of which so many first ones are refuted; the last id that was given
pub record AreTried (e : Encoded) (reset : List Bool) (p : Seen) (k b count refuted last : ℕ) (h : History) : Type 0 where
  pub ids : List ℕ
  pub recorded : IsRecorded last ids (record { problem = problem_over (unrolled e reset k) e k p count; history = h })
  pub phase : is_between_steps (phase_of h) ≡ true
  pub step : step_of h ≡ count + 1
  pub no_block : HasNoBlock h
  pub finished : finished_in h ≡ range_with_len 1 refuted
  pub few : HasFewLemmas b h
  pub leaves : StepsLeaveKept (problem_over (unrolled e reset k) e k p count) h

-- the same where each is refuted
pub record AreRefuted (e : Encoded) (reset : List Bool) (p : Seen) (k b c last : ℕ) (h : History) : Type 0 where
  pub tried : AreTried e reset p k b c c last h
  pub plain : AllByRecursion (IsPlain (problem_over (unrolled e reset k) e k p c)) (live (problem_over (unrolled e reset k) e k p c) h)

-- a log of the first `count` lengths, of which so many first ones are refuted
pub record IsLogOfLengths (e : Encoded) (reset : List Bool) (p : Seen) (k b count refuted : ℕ) (log : List Line) : Type 0 where
  pub last : ℕ
  pub tried : AreTried e reset p k b count refuted last (reverse log)
