-- A walk over the lines of a log, and what a step must be for its proof.
use Rattle.std.specs.Prelude.{◌≡◌, ℕ, ◌+◌, ◌<◌, ◌≤◌, ◌^◌, ◌==◌, cond, List, [], ◌∷◌, ◌++◌, length, map, All, Option, Some, None, if◌then◌else◌}
use Rattle.bs_clause.specs.declared.literal.TheConstants.{VARIABLE_LIMIT}
use Rattle.bs_clause.specs.Literal.{Clause}
use Rattle.bs_log.specs.declared.line.Line.{Line}
use Rattle.bs_log.specs.declared.line.Line.TheVariants.{Lemma, Block, Finish, Retire, Delete}
use Rattle.bs_log.specs.History.{Problem, History, step_of, last_id}
use Rattle.bs_log.specs.Refusal.{NoneRefused, assumptions_of, history_of}
use Rattle.bs_log.specs.Refutation.{blocks_of}
use Rattle.bs_log.specs.Clauses.{block_at, off}
use Rattle.bs_log.specs.Lines.{proof_line, raised, IdFits}
use Rattle.bs_log.specs.declared.id_offsets.Frame.{Frame}
use Rattle.bs_log.specs.Cnf.{cnf_of}
use Rattle.bs_log.specs.Proof.{alone, shown}
use Rattle.bs_log.specs.declared.asked.TheConstants.{FEW}
use Rattle.bs_log.specs.declared.asked.Refuted.{Refuted}
use Rattle.bs_log.specs.declared.walk.At.{At}

-- ---- a step

abbrev pub problem_in : Refuted → Problem
problem_in r = record { vars = r.vars; clauses = r.clauses.now; steps = r.steps.now }

-- the clauses of its list alone
abbrev pub clauses_in : Refuted → Problem
clauses_in r = alone (cnf_of (problem_in r) (history_of r.lines.now) r.step)

-- the number of one of so many steps
abbrev pub IsOneOf : (count step : ℕ) → Type 0
IsOneOf count step = (1 ≤ step) × (step ≤ count)

-- all parts have fewer members than this
pub record IsSmall (r : Refuted) : Type 0 where
  pub clauses : length r.clauses.now < FEW
  pub assumptions : length (assumptions_of (problem_in r) r.step) < FEW
  pub lines : length r.lines.now < FEW

-- one of the steps, whose activation literals are variables
pub record IsAsked (r : Refuted) : Type 0 where
  pub one : IsOneOf (length r.steps.now) r.step
  pub room : r.vars + length r.steps.now < VARIABLE_LIMIT
  pub small : IsSmall r

-- and no line up to the step's finish line is refused
pub record IsProvable (r : Refuted) : Type 0 where
  pub asked : IsAsked r
  pub right : NoneRefused (problem_in r) (Finish r.id ∷ history_of r.lines.now)
  pub under_way : step_of (history_of r.lines.now) ≡ r.step

-- ---- a line

-- the step behind a line
abbrev pub step_behind : Line → ℕ → ℕ
step_behind (Retire id) step = step + 1
step_behind line step = step

-- the lemma that a finish line names
abbrev pub named_finish : Line → Option ℕ
named_finish (Finish id) = Some id
named_finish line = None

-- the lemma that a line gives, if it has this id
abbrev pub lemma_named : Line → ℕ → Option Clause
lemma_named (Lemma own lits hints) id = if own == id then Some lits else None
lemma_named line id = None

-- the lemma that a finish line names, where this step is under way
abbrev pub finish_in : Line → (now step : ℕ) → Option ℕ
finish_in line now step = if now == step then named_finish line else None

-- ---- room

-- the ids of the line can go up
abbrev pub LineFits : Frame → Line → Type 0
LineFits f (Lemma id lits hints) = IdFits f id × All (IdFits f) hints
LineFits f (Block id lits) = IdFits f id
LineFits f (Retire id) = IdFits f id
LineFits f (Delete ids) = All (IdFits f) ids
LineFits f line = Unit {0}

-- the ids of the clauses that blocks and retired activation literals follow from
pub record HasRoom (f : Frame) (at : At) : Type 0 where
  pub own : f.own + at.blocks + 1 < 2 ^ 64
  pub closed : f.closed + at.step < 2 ^ 64

-- ---- behind some lines

abbrev pub block_hint_at : Frame → At → ℕ
block_hint_at f at = cond (at.step == f.step) (f.own + at.blocks + 1) (f.closed + at.step)

-- what a line of the log is in the proof
abbrev pub shown_at : Frame → (vars : ℕ) → At → Line → List Line
shown_at f vars at (Lemma id lits hints) = Lemma (raised f id) lits (map (raised f) hints) ∷ []
shown_at f vars at (Block id lits) = Lemma (raised f id) lits (block_hint_at f at ∷ []) ∷ []
shown_at f vars at (Retire id) = Lemma (raised f id) (off vars at.step ∷ []) ((f.closed + at.step) ∷ []) ∷ []
shown_at f vars at (Delete ids) = Delete (map (raised f) ids) ∷ []
shown_at f vars at line = []

-- lines that stand behind the clause of this id, one at most
abbrev pub lines_text : ℕ → List Line → List ℕ
lines_text last [] = []
lines_text last (line ∷ earlier) = lines_text last earlier ++ proof_line last line

-- the last id of the proof behind a line
abbrev pub last_behind : Frame → ℕ → Line → ℕ
last_behind f last (Lemma id lits hints) = raised f id
last_behind f last (Block id lits) = raised f id
last_behind f last (Retire id) = raised f id
last_behind f last line = last

abbrev pub at_behind : Frame → At → Line → At
at_behind f at line =
    record {
      step = step_behind line at.step;
      blocks = at.blocks + length (block_at line at.step f.step);
      last = last_behind f at.last line;
    }

-- the step that is under way, how many blocks the asked step has so far, and the last id of the proof
pub record IsAt (f : Frame) (p q : Problem) (h : History) (at : At) : Type 0 where
  pub step_is : at.step ≡ step_of h
  pub blocks_are : at.blocks ≡ length (blocks_of h f.step)
  pub last_is : at.last ≡ last_id q (shown f p h)
