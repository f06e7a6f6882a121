-- A wider list of clauses, and what renamed logs are on it.
use Rattle.std.specs.Prelude.{◌≡◌, ◌⊎◌, ◌+◌, ◌<◌, ◌≤◌, ◌^◌, List, ◌++◌, map, length, All, Any, Contains}
use Rattle.bs_clause.specs.declared.literal.TheConstants.{VARIABLE_LIMIT}
use Rattle.bs_clause.specs.Literal.{Literal, Clause}
use Rattle.bs_clause.specs.Range.{HasVariables}
use Rattle.bs_log.specs.declared.line.Line.{Line}
use Rattle.bs_log.specs.History.{Problem}
use Rattle.bs_log.specs.Refusal.{history_of, IsAccepted}
use Rattle.bs_log.specs.Lean.{IsLean}
use Rattle.bs_log.specs.LineForms.{HasText}
use Rattle.bs_log.specs.Steps.{HasNoBlock, finished_in}
use Rattle.bs_reach.specs.declared.offsets.Shift.{Shift}
use Rattle.bs_reach.specs.Renamed.{new_clause, new_line, HasRoom}

-- the variable is a new one
abbrev pub IsNewVariable : Problem → Problem → Literal → Type 0
IsNewVariable p q l = (p.vars < l.variable) × (l.variable ≤ q.vars)

-- The second problem has the clauses of the first in their order, with `more` between and `later` behind them, more variables
-- below the activation literals, and the same steps. A clause that it has more stands in the first one too, or has a new variable.
pub record IsWidened (s : Shift) (p q : Problem) : Type 0 where
  pub head : List Clause
  pub tail : List Clause
  pub more : List Clause
  pub later : List Clause
  pub narrow : p.clauses ≡ head ++ tail
  pub wide : q.clauses ≡ head ++ (more ++ (tail ++ later))
  pub steps_are : q.steps ≡ map (new_clause s) p.steps
  pub range : All (HasVariables p.vars) p.clauses
  pub apart : All (λ c. Contains p.clauses c ⊎ Any (IsNewVariable p q) c) (more ++ later)
  pub vars_stay : s.vars ≡ p.vars
  pub vars_go : q.vars ≡ p.vars + s.vars_by
  pub front_is : s.front ≡ length head
  pub front_goes : s.front_by ≡ length more
  pub listed_is : s.listed ≡ length head + length tail
  pub listed_goes : s.listed_by ≡ length more + length later

-- the renamed log is accepted on the second problem, lean and has a text, and has blocks and finish lines where the log has them
pub record StaysRight (s : Shift) (q : Problem) (log : List Line) : Type 0 where
  pub accepted : IsAccepted q (map (new_line s) log)
  pub lean : IsLean q (history_of (map (new_line s) log))
  pub texts : All HasText (map (new_line s) log)
  pub no_block : HasNoBlock log → HasNoBlock (map (new_line s) log)
  pub finished : finished_in (history_of (map (new_line s) log)) ≡ finished_in (history_of log)

abbrev pub LogsStayRight : Type 0
LogsStayRight =
    (s : Shift) (p q : Problem) (log : List Line) → IsWidened s p q → IsAccepted p log → IsLean p (history_of log) → All HasText log →
    All (HasRoom s) log → StaysRight s q log

-- Where the ids and variables of the wider list and of the log are small enough, each line can be renamed.
abbrev pub LogsHaveRoom : Type 0
LogsHaveRoom =
    (s : Shift) (p q : Problem) (log : List Line) → IsWidened s p q → IsAccepted p log → IsLean p (history_of log) →
    length p.clauses + length log + s.listed_by < 2 ^ 64 → p.vars + length p.steps + s.vars_by < VARIABLE_LIMIT → All (HasRoom s) log
