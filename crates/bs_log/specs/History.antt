-- What the lines of a log add and take away. A history is the lines so far, the newest first.
use Rattle.std.specs.Prelude.{ℕ, ◌+◌, ◌==◌, Bool, true, false, not, ◌||◌, List, [], ◌∷◌, ◌++◌, length}
use Rattle.std.specs.List.{list_any, filter}
use Rattle.bs_clause.specs.Literal.{Literal, Clause, negation}
use Rattle.bs_log.specs.declared.line.Line.{Line}
use Rattle.bs_log.specs.declared.line.Line.TheVariants.{Solve, Lemma, Block, Finish, Retire, Delete}
use Rattle.bs_log.specs.declared.origin.Origin.{Origin}
use Rattle.bs_log.specs.declared.origin.Origin.TheVariants.{Axiom, Learnt, Blocked, Retired}
use Rattle.bs_log.specs.declared.phase.Phase.{Phase}
use Rattle.bs_log.specs.declared.phase.Phase.TheVariants.{BetweenSteps, InSolve, AfterBlock, AfterFinish, AfterRetire}

-- what a log is about: clauses over variables 1 to vars, and the assumptions of each step
pub record Problem : Type 0 where
  pub vars : ℕ
  pub clauses : List Clause
  pub steps : List Clause

abbrev pub History : Type 0
History = List Line

-- a clause with its id
pub record Entry : Type 0 where
  pub id : ℕ
  pub origin : Origin
  pub literals : Clause

-- the number of the step that is under way or comes next, from 1
abbrev pub step_of : History → ℕ
step_of [] = 1
step_of (Retire id ∷ earlier) = step_of earlier + 1
step_of (line ∷ earlier) = step_of earlier

-- a step's activation literal is the variable of its number above the clauses' own
abbrev pub activation_of : Problem → ℕ → Literal
activation_of p step = record { variable = p.vars + step; positive = true }

-- the clauses under the ids 1, 2, 3 and so on
abbrev pub axioms_from : ℕ → List Clause → List Entry
axioms_from n [] = []
axioms_from n (c ∷ cs) = record { id = n; origin = Axiom; literals = c } ∷ axioms_from (n + 1) cs

-- the clauses that were added, in the order of their ids: a lemma and a block add theirs, and a retire line the negation
-- of its step's activation literal
abbrev pub added : Problem → History → List Entry
added p [] = axioms_from 1 p.clauses
added p (Lemma id lits hints ∷ earlier) = added p earlier ++ record { id = id; origin = Learnt; literals = lits } ∷ []
added p (Block id lits ∷ earlier) = added p earlier ++ record { id = id; origin = Blocked; literals = lits } ∷ []
added p (Retire id ∷ earlier) =
    added p earlier ++ record { id = id; origin = Retired; literals = negation (activation_of p (step_of earlier)) ∷ [] } ∷ []
added p (line ∷ earlier) = added p earlier

-- whether a line takes the clause of this id away
abbrev pub is_deleted : History → ℕ → Bool
is_deleted [] id = false
is_deleted (Delete ids ∷ earlier) id = list_any (λ d. id == d) ids || is_deleted earlier id
is_deleted (line ∷ earlier) id = is_deleted earlier id

-- the clauses that stand: those that were added and not taken away
abbrev pub live : Problem → History → List Entry
live p history = filter (λ e. not (is_deleted history e.id)) (added p history)

-- the last id that was given
abbrev pub last_id : Problem → History → ℕ
last_id p [] = length p.clauses
last_id p (Lemma id lits hints ∷ earlier) = id
last_id p (Block id lits ∷ earlier) = id
last_id p (Retire id ∷ earlier) = id
last_id p (line ∷ earlier) = last_id p earlier

abbrev pub phase_after : Line → Phase
phase_after Solve = InSolve
phase_after (Lemma id lits hints) = InSolve
phase_after (Block id lits) = AfterBlock
phase_after (Finish id) = AfterFinish
phase_after (Retire id) = AfterRetire
phase_after (Delete ids) = BetweenSteps

abbrev pub phase_of : History → Phase
phase_of [] = BetweenSteps
phase_of (line ∷ earlier) = phase_after line

-- all that the rules ask of the lines so far
pub record State : Type 0 where
  pub phase : Phase
  pub step : ℕ
  pub last_id : ℕ
  pub live : List Entry

abbrev pub state_of : Problem → History → State
state_of p h = record { phase = phase_of h; step = step_of h; last_id = last_id p h; live = live p h }
