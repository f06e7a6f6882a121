-- What makes lists of candidates, as a contract sees it.
use Rattle.std.specs.Prelude.{◌≡◌, ◌⊎◌, ℕ, ◌+◌, Bool, false, List, [], ◌∷◌, ◌++◌, length, Option}
use Rattle.bs_scan.specs.declared.seen.Seen.{Seen}
use Rattle.bs_clause.specs.Literal.{Literal, Clause}
use Rattle.bs_log.specs.declared.line.Line.{Line}
use Rattle.bs_log.specs.History.{Problem, History, activation_of}
use Rattle.bs_net.specs.Circuit.{Circuit}
use Rattle.bs_scan.specs.Choice.{Chosen}
use Rattle.bs_encode.specs.Encoded.{Encoded}
use Rattle.bs_encode.specs.Assuming.{assumptions_for, asking, problem_of}
use Rattle.bs_encode.specs.Depth.{encoding_by}

-- the circuit and what its signature is taken of; what the log is about, and its lines, the newest first; how many lists were
-- asked for; and whether memory ran out
pub record PreimageState : Type 0 where
  pub circuit : Circuit
  pub choice : Chosen
  pub problem : Problem
  pub history : History
  pub calls : ℕ
  pub failed : Bool

abbrev pub encoding_in : PreimageState → Encoded
encoding_in s = encoding_by s.circuit s.choice

-- before the first list
abbrev pub fresh : Circuit → Chosen → PreimageState
fresh c choice =
    record {
      circuit = c;
      choice = choice;
      problem = problem_of (encoding_by c choice) [];
      history = [];
      calls = 0;
      failed = false;
    }

-- the activation literal of the next step
abbrev pub next_activation : Problem → Literal
next_activation p = activation_of p (length p.steps + 1)

-- what the next step assumes
abbrev pub assumptions_in : PreimageState → Seen → List Bool → Option (List Bool) → Clause
assumptions_in s present stored older = assumptions_for (encoding_in s) (next_activation s.problem) (asking present stored older)

-- further lines were logged, about the same clauses
pub record GoesOn (old new : PreimageState) : Type 0 where
  pub circuit : new.circuit ≡ old.circuit
  pub choice : new.choice ≡ old.choice
  pub vars : new.problem.vars ≡ old.problem.vars
  pub clauses : new.problem.clauses ≡ old.problem.clauses
  pub more : List Line
  pub history : new.history ≡ more ++ old.history

-- the steps are as before, or have this one more
abbrev pub MayHaveStep : PreimageState → PreimageState → Clause → Type 0
MayHaveStep old new step = (new.problem.steps ≡ old.problem.steps) ⊎ (new.problem.steps ≡ old.problem.steps ++ step ∷ [])
