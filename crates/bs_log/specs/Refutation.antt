-- What an accepted log refutes.
use Rattle.std.specs.Prelude.{◌≡◌, ◌≢◌, ℕ, ◌+◌, ◌≤◌, ◌==◌, Bool, true, false, cond, List, [], ◌∷◌, ◌++◌, length, All, IsTrue}
use Rattle.bs_clause.specs.Literal.{Clause, literal_value, Satisfies}
use Rattle.bs_log.specs.declared.line.Line.{Line}
use Rattle.bs_log.specs.declared.line.Line.TheVariants.{Block, Finish}
use Rattle.bs_log.specs.History.{Problem, History, step_of, added}
use Rattle.bs_log.specs.Refusal.{history_of, assumptions_of, IsAccepted}

-- the blocks of a step
abbrev pub blocks_of : History → ℕ → List Clause
blocks_of [] step = []
blocks_of (Block id lits ∷ earlier) step = cond (step_of earlier == step) (lits ∷ blocks_of earlier step) (blocks_of earlier step)
blocks_of (line ∷ earlier) step = blocks_of earlier step

-- The assignment meets the clauses and the blocks of the step so far, and of all activation literals the step's alone is true.
pub record Suits (p : Problem) (history : History) (step : ℕ) (v : ℕ → Bool) : Type 0 where
  pub in_range : step ≤ length p.steps
  pub clauses : All (Satisfies v) p.clauses
  pub blocks : All (Satisfies v) (blocks_of history step)
  pub activation : v (p.vars + step) ≡ true
  pub other_activations : (other : ℕ) → 1 ≤ other → other ≤ length p.steps → other ≢ step → v (p.vars + other) ≡ false

-- Such an assignment meets every clause that an accepted log adds before the step's retire line.
abbrev pub AddedClausesHold : Type 0
AddedClausesHold =
    (p : Problem) (log before after : List Line) (step : ℕ) (v : ℕ → Bool) →
    IsAccepted p log → log ≡ before ++ after → step_of (history_of before) ≤ step →
    Suits p (history_of before) step v → All (λ e. Satisfies v e.literals) (added p (history_of before))

-- So where an accepted log finishes a step, no such assignment meets the step's assumptions.
abbrev pub FinishedStepsAreRefuted : Type 0
FinishedStepsAreRefuted =
    (p : Problem) (log before after : List Line) (id : ℕ) (v : ℕ → Bool) →
    IsAccepted p log → log ≡ before ++ Finish id ∷ after →
    Suits p (history_of before) (step_of (history_of before)) v →
    All (λ l. IsTrue (literal_value v l)) (assumptions_of p (step_of (history_of before))) → ⊥
