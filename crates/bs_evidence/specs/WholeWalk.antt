-- A walk over the lines of a log, and what a log must be for its texts.
use Rattle.std.specs.Prelude.{◌≡◌, ℕ, ◌+◌, ◌<◌, ◌^◌, Bool, true, false, List, [], ◌∷◌, length, All, Some, None, IfSome}
use Rattle.std.specs.List.{list_any}
use Rattle.bs_clause.specs.declared.literal.TheConstants.{VARIABLE_LIMIT}
use Rattle.bs_clause.specs.Literal.{Clause, IsVariable}
use Rattle.bs_log.specs.declared.line.Line.{Line}
use Rattle.bs_log.specs.declared.line.Line.TheVariants.{Block, Finish, Retire}
use Rattle.bs_log.specs.History.{Problem, History, last_id}
use Rattle.bs_log.specs.Refusal.{IsAccepted, history_of}
use Rattle.bs_log.specs.declared.asked.TheConstants.{FEW}
use Rattle.bs_log.specs.declared.id_offsets.Frame.{Frame}
use Rattle.bs_log.specs.Proof.{alone}
use Rattle.bs_log.specs.Lines.{IdFits}
use Rattle.bs_evidence.specs.WholeCnf.{rest_of, said_of, whole_cnf_of}
use Rattle.bs_evidence.specs.WholeProof.{under_of, place_of, whole_shown}
use Rattle.bs_evidence.specs.declared.whole.WholeLog.{WholeLog}
use Rattle.bs_evidence.specs.declared.whole_walk.Under.{Under}
use Rattle.bs_evidence.specs.declared.whole_walk.At.{At}

-- ---- a log

-- some line finishes a step
abbrev pub is_finish : Line → Bool
is_finish (Finish id) = true
is_finish line = false

abbrev pub has_finish : List Line → Bool
has_finish log = list_any is_finish log

abbrev pub problem_in : WholeLog → Problem
problem_in w = record { vars = w.vars; clauses = w.clauses.now; steps = w.steps.now }

abbrev pub history_in : WholeLog → History
history_in w = history_of w.lines.now

-- all its clauses alone
abbrev pub clauses_in : WholeLog → Problem
clauses_in w = alone (whole_cnf_of (problem_in w) (history_in w))

-- all parts have fewer members than this
pub record IsSmall (p : Problem) (log : List Line) : Type 0 where
  pub clauses : length p.clauses < FEW
  pub assumptions : All (λ c. length c < FEW) p.steps
  pub lines : length log < FEW

-- the log is accepted, and its activation literals are variables
pub record IsWritable (w : WholeLog) : Type 0 where
  pub accepted : IsAccepted (problem_in w) w.lines.now
  pub room : w.vars + length w.steps.now < VARIABLE_LIMIT
  pub small : IsSmall (problem_in w) w.lines.now

-- ---- a line

abbrev pub under_behind : Line → Under → Under
under_behind (Finish id) u = record { step = u.step; finish = Some id }
under_behind (Retire id) u = record { step = u.step + 1; finish = None }
under_behind line u = u

-- the clauses that a line gives
abbrev pub given_at : Problem → Under → Line → List Clause
given_at p u (Block id lits) = lits ∷ []
given_at p u (Retire id) = said_of p u.step u.finish
given_at p u line = []

-- the activation literal of a step that the line ends is a variable
abbrev pub EndFits : (vars step : ℕ) → Line → Type 0
EndFits vars step (Retire id) = IsVariable (vars + step)
EndFits vars step line = Unit {0}

-- ---- behind some lines

pub record IsAt (f : Frame) (p q : Problem) (h : History) (at : At) : Type 0 where
  pub under_is : at.under ≡ under_of h
  pub place_is : at.place ≡ place_of p h
  pub last_is : at.last ≡ last_id q (whole_shown f p h)

-- what ends the step that is under way has ids that are small enough
pub record HasRoom (f : Frame) (p : Problem) (at : At) : Type 0 where
  pub place : at.place + length (rest_of p at.under.step) + 1 < 2 ^ 64
  pub finish : IfSome at.under.finish (IdFits f)
