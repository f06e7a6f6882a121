-- The search for one length after another, and what its log says.
use Rattle.std.specs.Prelude.{◌≡◌, ℕ, ◌+◌, ◌-◌, ◌*◌, ◌^◌, ◌<◌, ◌≤◌, Bool, true, false, List, [], ◌∷◌, ◌++◌, length, map, Option, All}
use Rattle.std.specs.List.{AllByRecursion, range_with_len}
use Rattle.bs_scan.specs.declared.seen.Seen.{Seen}
use Rattle.bs_clause.specs.Literal.{Literal, Clause, literal_value, Satisfies}
use Rattle.bs_clause.specs.UnitRun.{IsUnitRun}
use Rattle.bs_clause.specs.Range.{HasVariables}
use Rattle.bs_log.specs.declared.line.Line.{Line}
use Rattle.bs_log.specs.declared.line.Line.TheVariants.{Solve, Retire}
use Rattle.bs_log.specs.History.{Problem, History, step_of}
use Rattle.bs_log.specs.Steps.{HasNoBlock, finished_in}
use Rattle.bs_solve_lemmas.specs.declared.stage.Stage.TheVariants.{Idle}
use Rattle.bs_solve_lemmas.specs.Ending.{is_open_lemma}
use Rattle.bs_solve_lemmas.specs.Solver.{SolverState}
use Rattle.bs_solve_lemmas.specs.Values.{value_of}
use Rattle.bs_solve.specs.Budget.{HasFewLemmas}
use Rattle.bs_encode.specs.Encoded.{Encoded}
use Rattle.bs_encode.specs.Assuming.{signed_seen}
use Rattle.bs_reach_unrolled.specs.Unrolled.{next_at, length_assumes}
use Rattle.bs_reach.specs.declared.length.Trial.{Trial}
use Rattle.bs_reach.specs.declared.length.Trial.TheVariants.{Shown, Refuted, Spent}

-- what a log over these clauses with a step for each length from 1 to `count` is about
abbrev pub problem_over : List Clause → Encoded → ℕ → Seen → ℕ → Problem
problem_over clauses e k p count =
    record {
      vars = k * e.variables;
      clauses = clauses;
      steps = map (length_assumes e k p) (range_with_len 1 count);
    }

-- so many lengths were tried, and the first ones of them are refuted; no solve logged more than b lemmas
pub record IsTried (clauses : List Clause) (e : Encoded) (k : ℕ) (p : Seen) (b tried refuted : ℕ) (s : SolverState) : Type 0 where
  pub well : s.failed ≡ false
  pub idle : s.stage ≡ Idle
  pub problem : s.proof.problem ≡ problem_over clauses e k p tried
  pub no_block : HasNoBlock s.proof.history
  pub finished : finished_in s.proof.history ≡ range_with_len 1 refuted
  pub few : HasFewLemmas b s.proof.history

-- so many lengths were tried, and all of them are refuted
pub record IsBetween (clauses : List Clause) (e : Encoded) (k : ℕ) (p : Seen) (b count : ℕ) (s : SolverState) : Type 0 where
  pub tried : IsTried clauses e k p b count count s
  pub activations : s.vars ≡ k * e.variables + count
  pub number : step_of s.proof.history ≡ count + 1

-- the values meet the clauses, and time frame number c leads to the state
pub record HasShown (clauses : List Clause) (e : Encoded) (k : ℕ) (p : Seen) (b c : ℕ) (values : List (Option Bool)) (s : SolverState) : Type 0 where
  pub tried : IsTried clauses e k p b (c + 1) c s
  pub wide : k * e.variables ≤ length values
  pub met : All (Satisfies (value_of values)) clauses
  pub ends : All (λ l. literal_value (value_of values) l ≡ true) (signed_seen (next_at e c) p)

-- The solve of length c + 1 logged b lemmas, none of which ends its step, and then the step ended. And b is less than the number
-- of values of the variables that a unit run leaves open.
pub record HasSpent (clauses : List Clause) (e : Encoded) (k : ℕ) (p : Seen) (b c : ℕ) (s : SolverState) : Type 0 where
  pub tried : IsTried clauses e k p b (c + 1) c s
  pub earlier : History
  pub lemmas : List Line
  pub id : ℕ
  pub later : List Line
  pub history : s.proof.history ≡ later ++ Retire id ∷ (lemmas ++ Solve ∷ earlier)
  pub step : step_of earlier ≡ c + 1
  pub count : length lemmas ≡ b
  pub open_yet : AllByRecursion (λ line. is_open_lemma (length_assumes e k p (c + 1)) line ≡ true) lemmas
  pub bound : (run : List Literal) → HasVariables (k * e.variables) run → IsUnitRun clauses (length_assumes e k p (c + 1)) run →
      b < 2 ^ (k * e.variables - length run)

-- what the trial of length c + 1 comes to
abbrev pub TriesTo : List Clause → Encoded → ℕ → Seen → ℕ → ℕ → SolverState → Trial → Type 0
TriesTo clauses e k p b c s (Shown values) = HasShown clauses e k p b c values s
TriesTo clauses e k p b c s Refuted = IsBetween clauses e k p b (c + 1) s
TriesTo clauses e k p b c s Spent = HasSpent clauses e k p b c s

-- a solver that was just made
abbrev pub fresh_over : List Clause → Encoded → ℕ → SolverState
fresh_over clauses e k =
    record {
      proof = record { problem = record { vars = k * e.variables; clauses = clauses; steps = [] }; history = [] };
      vars = k * e.variables;
      stage = Idle;
      failed = false;
    }
