-- How a solve ends, and what it logged.
use Rattle.std.specs.Prelude.{◌≡◌, ℕ, ◌-◌, ◌<◌, ◌^◌, Bool, true, false, not, List, ◌++◌, length, Option}
use Rattle.std.specs.List.{AllByRecursion}
use Rattle.bs_clause.specs.Literal.{Literal, Clause}
use Rattle.bs_clause.specs.UnitRun.{IsUnitRun}
use Rattle.bs_log.specs.declared.line.Line.{Line}
use Rattle.bs_log.specs.declared.line.Line.TheVariants.{Lemma}
use Rattle.bs_log.specs.Refusal.{denies}
use Rattle.bs_log.specs.Steps.{is_lemma_line}
use Rattle.bs_solve_lemmas.specs.declared.answer.Answer.{Answer}
use Rattle.bs_solve_lemmas.specs.declared.answer.Answer.TheVariants.{Found, Refuted, Spent}
use Rattle.bs_solve_lemmas.specs.ProofLog.{ProofLog, standing}
use Rattle.bs_solve_lemmas.specs.Search.{assumed, HasRefuted}
use Rattle.bs_solve_lemmas.specs.Values.{IsSolution}

-- a lemma with another literal than the negations of the assumptions
abbrev pub is_open_lemma : Clause → Line → Bool
is_open_lemma assumptions (Lemma id lits hints) = not (denies assumptions lits)
is_open_lemma assumptions line = false

-- so many lemmas were logged, and none of them ends the step
pub record HasLemmas (old new : ProofLog) (count : ℕ) : Type 0 where
  pub lines : List Line
  pub history : new.history ≡ lines ++ old.history
  pub problem : new.problem ≡ old.problem
  pub same_step : assumed new ≡ assumed old
  pub length_is : length lines ≡ count
  pub open_yet : AllByRecursion (λ line. is_open_lemma (assumed old) line ≡ true) lines

-- further lemmas were logged
pub record SomeLemmas (old new : ProofLog) : Type 0 where
  pub lines : List Line
  pub history : new.history ≡ lines ++ old.history
  pub problem : new.problem ≡ old.problem
  pub lemmas : AllByRecursion (λ line. is_lemma_line line ≡ true) lines

-- fewer lemmas than the limit were logged, and then one that denies only assumptions
pub record IsRefuted (old new : ProofLog) (limit id : ℕ) : Type 0 where
  pub middle : ProofLog
  pub count : ℕ
  pub before : HasLemmas old middle count
  pub under : count < limit
  pub last : HasRefuted middle new id

-- the values found are a solution; the lemma of the id ends the step; or the limit was reached, which it is not where
-- it is at least 2 ^ (vars - l) for a unit run of length l
pub record IsSpent (old new : ProofLog) (vars limit : ℕ) : Type 0 where
  pub lemmas : HasLemmas old new limit
  pub bound : (run : List Literal) → IsUnitRun (standing old) (assumed old) run → limit < 2 ^ (vars - length run)

pub record IsFound (old new : ProofLog) (vars limit : ℕ) (values : List (Option Bool)) : Type 0 where
  pub count : ℕ
  pub lemmas : HasLemmas old new count
  pub under : count < limit
  pub solution : IsSolution vars (standing new) (assumed new) values

abbrev pub Ends : ProofLog → ProofLog → ℕ → ℕ → Answer → Type 0
Ends old new vars limit (Found values) = IsFound old new vars limit values
Ends old new vars limit (Refuted id) = IsRefuted old new limit id
Ends old new vars limit Spent = IsSpent old new vars limit
