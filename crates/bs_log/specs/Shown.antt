-- What the log of a listing is checked against, and an assignment that shows what a step may still list.
use Rattle.std.specs.Prelude.{◌≡◌, ◌≢◌, ℕ, ◌+◌, ◌≤◌, Bool, true, false, List, ◌∷◌, length, All, IsTrue}
use Rattle.bs_clause.specs.Literal.{Clause, negation, literal_value, Satisfies}
use Rattle.bs_log.specs.History.{Problem, activation_of}
use Rattle.bs_log.specs.Refusal.{assumptions_of}

-- clauses with the assumptions of each step, and the block of each state
pub record Basis : Type 0 where
  pub problem : Problem
  pub block : List Bool → Clause

-- An assignment that shows the state s in the step of this number: it meets the clauses, the step's assumptions, and the
-- block of every other state of this width, and of all activation literals the step's alone is true.
pub record Shown (basis : Basis) (width step : ℕ) (s : List Bool) : Type 0 where
  pub value : ℕ → Bool
  pub clauses : All (Satisfies value) basis.problem.clauses
  pub assumptions : All (λ l. IsTrue (literal_value value l)) (assumptions_of basis.problem step)
  pub activation : value (basis.problem.vars + step) ≡ true
  pub other_activations : (other : ℕ) → 1 ≤ other → other ≤ length basis.problem.steps → other ≢ step → value (basis.problem.vars + other) ≡ false
  pub blocks : (t : List Bool) → length t ≡ width → t ≢ s → Satisfies value (negation (activation_of basis.problem step) ∷ basis.block t)
