-- A turn of a search for candidates: one solve, and what comes of it.
use Rattle.std.specs.Prelude.{◌≡◌, ◌≢◌, ◌⊎◌, ℕ, ◌+◌, ◌-◌, ◌^◌, ◌<◌, ◌≤◌, Bool, true, false, cond, List, [], ◌∷◌, ◌++◌, length, Option, Some, None}
use Rattle.std.specs.Prelude.{All, Contains, if◌then◌else◌}
use Rattle.std.specs.Option.{option_to_list}
use Rattle.std.specs.List.{AllByRecursion}
use Rattle.bs_clause.specs.declared.literal.TheConstants.{VARIABLE_LIMIT}
use Rattle.bs_clause.specs.Literal.{Literal, Clause, negation, literal_value, Satisfies}
use Rattle.bs_clause.specs.UnitRun.{IsUnitRun}
use Rattle.bs_clause.specs.Range.{HasVariables}
use Rattle.bs_log.specs.declared.line.Line.{Line}
use Rattle.bs_log.specs.declared.line.Line.TheVariants.{Solve}
use Rattle.bs_log.specs.History.{step_of, activation_of}
use Rattle.bs_log.specs.Refusal.{has_distinct_variables}
use Rattle.bs_log.specs.Steps.{is_lemma_line}
use Rattle.bs_encode.specs.declared.encoding.TheConstants.{MAX_ACTIVATIONS}
use Rattle.bs_encode.specs.Encoded.{Encoded}
use Rattle.bs_encode.specs.Assuming.{block_for, assumptions_for}
use Rattle.bs_encode.specs.Cycle.{bits_on}
use Rattle.bs_encode.specs.Listing.{joins}
use Rattle.bs_scan.specs.Moments.{is_listed}
use Rattle.bs_scan.specs.Present.{Present}
use Rattle.bs_report.specs.declared.report.Before.{Before}
use Rattle.bs_report.specs.declared.report.Cand.{Cand}
use Rattle.bs_report.specs.Step.{listed}
use Rattle.bs_solve_lemmas.specs.declared.stage.Stage.TheVariants.{Ended, Stopped}
use Rattle.bs_solve_lemmas.specs.ProofLog.{ProofLog, standing}
use Rattle.bs_solve_lemmas.specs.Search.{assumed}
use Rattle.bs_solve_lemmas.specs.Ending.{is_open_lemma}
use Rattle.bs_solve_lemmas.specs.Stages.{is_begun}
use Rattle.bs_solve_lemmas.specs.Solver.{SolverState, MaySolve, HasBlocked}
use Rattle.bs_solve_lemmas.specs.Values.{value_of}
use Rattle.bs_preimage.specs.declared.next_candidate.TurnEnd.{TurnEnd}
use Rattle.bs_preimage.specs.declared.next_candidate.TurnEnd.TheVariants.{Listed, Refuted, Spent}
use Rattle.bs_preimage.specs.Rest.{AxiomsStand}

-- ---- what an assignment shows

-- the state and the input of the cycle before that an assignment shows, where it joins the time frames
abbrev pub before_on : Encoded → (ℕ → Bool) → Option Before
before_on e value =
    if joins value e.link then Some (record { state = bits_on value e.older_states; input = bits_on value e.older_inputs }) else None

-- some assignment meets the clauses and the assumptions, and shows this state and this input, and those of the cycle before
pub record IsShownIn (e : Encoded) (assumptions : Clause) (cand : Cand) : Type 0 where
  pub value : ℕ → Bool
  pub clauses : All (Satisfies value) e.clauses
  pub holds : All (λ l. literal_value value l ≡ true) assumptions
  pub state : cand.state ≡ bits_on value e.states
  pub input : cand.input ≡ bits_on value e.inputs
  pub before : cand.before ≡ before_on e value

-- ---- the proof log

-- Further lines were logged, about the same clauses; and where a step has just begun, its assumptions may have been added.
pub record Extends (first : Bool) (old new : ProofLog) (assumptions : Clause) : Type 0 where
  pub vars : new.problem.vars ≡ old.problem.vars
  pub clauses : new.problem.clauses ≡ old.problem.clauses
  pub more : List Line
  pub history : new.history ≡ more ++ old.history
  pub steps : (new.problem.steps ≡ old.problem.steps) ⊎ ((first ≡ true) × (new.problem.steps ≡ old.problem.steps ++ assumptions ∷ []))

-- what stood still stands
abbrev pub Keeps : ProofLog → ProofLog → Type 0
Keeps old new = (c : Clause) → Contains (standing old) c → Contains (standing new) c

-- the activation literal of the step under way
abbrev pub activation_in : ProofLog → Literal
activation_in b = activation_of b.problem (step_of b.history)

-- what keeps a state from being found again in the step under way
abbrev pub block_in : Encoded → ProofLog → List Bool → Clause
block_in e b state = negation (activation_in b) ∷ block_for e state

-- the steps after a solve: the first solve of a step brings its assumptions
abbrev pub steps_after : Bool → List Clause → Clause → List Clause
steps_after first steps assumptions = cond first (steps ++ assumptions ∷ []) steps

-- the line of a solve was logged, and then these lemmas
pub record HasSearched (old new : SolverState) (assumptions : Clause) (lemmas : List Line) : Type 0 where
  pub was_well : old.failed ≡ false
  pub well : new.failed ≡ false
  pub vars : new.proof.problem.vars ≡ old.proof.problem.vars
  pub clauses : new.proof.problem.clauses ≡ old.proof.problem.clauses
  pub steps : new.proof.problem.steps ≡ steps_after (is_begun old.stage) old.proof.problem.steps assumptions
  pub history : new.proof.history ≡ lemmas ++ Solve ∷ old.proof.history
  pub are_lemmas : AllByRecursion (λ line. is_lemma_line line ≡ true) lemmas
  pub stand : Keeps old.proof new.proof
  pub assumed_is : assumed new.proof ≡ assumptions
  pub activations : new.vars ≡ old.vars

-- ---- a turn

-- there is room for the activation literals of `MAX_ACTIVATIONS` steps; state, inputs and blocks are over the encoding's variables, and what a step
-- assumes also over its activation literal; and no variable stands twice in a block or in what a step assumes
pub record IsReadable (e : Encoded) : Type 0 where
  pub room : e.variables + MAX_ACTIVATIONS < VARIABLE_LIMIT
  pub assumptions_range : (activation : Literal) (q : Present) → e.variables < activation.variable → HasVariables activation.variable (assumptions_for e activation q)
  pub assumptions_distinct : (activation : Literal) (q : Present) → e.variables < activation.variable → has_distinct_variables (assumptions_for e activation q) ≡ true
  pub states : HasVariables e.variables e.states
  pub inputs : HasVariables e.variables e.inputs
  pub link : HasVariables e.variables (option_to_list e.link)
  pub older_states : HasVariables e.variables e.older_states
  pub older_inputs : HasVariables e.variables e.older_inputs
  pub block_range : (state : List Bool) → HasVariables e.variables (block_for e state)
  pub block_distinct : (state : List Bool) → has_distinct_variables (block_for e state) ≡ true

-- the step is under way, and the solver may search
pub record MayTurn (e : Encoded) (s : SolverState) (assumptions : Clause) : Type 0 where
  pub may : MaySolve s assumptions
  pub range : HasVariables s.vars assumptions
  pub distinct : has_distinct_variables assumptions ≡ true
  pub activation : Contains assumptions (activation_in s.proof)
  pub vars : s.proof.problem.vars ≡ e.variables
  pub activations : e.variables ≤ s.vars
  pub clauses : s.proof.problem.clauses ≡ e.clauses
  pub stand : AxiomsStand s.proof

-- the candidate is the one that the values show, and its state is blocked
pub record HasShownCand (e : Encoded) (values : List (Option Bool)) (old new : SolverState) (cand : Cand) : Type 0 where
  pub state : cand.state ≡ bits_on (value_of values) e.states
  pub input : cand.input ≡ bits_on (value_of values) e.inputs
  pub before : cand.before ≡ before_on e (value_of values)
  pub id : ℕ
  pub blocked : HasBlocked old new (block_for e cand.state) id

abbrev pub HasShown : Encoded → List (Option Bool) → SolverState → SolverState → TurnEnd → Type 0
HasShown e values old new (Listed cand) = HasShownCand e values old new cand
HasShown e values old new other = ⊥

-- the solve logged fewer lemmas than its limit and found a candidate whose state was not blocked, and the state is now
pub record HasListedOne (e : Encoded) (assumptions : Clause) (limit : ℕ) (old new : SolverState) (cand : Cand) : Type 0 where
  pub middle : SolverState
  pub lemmas : List Line
  pub searched : HasSearched old middle assumptions lemmas
  pub few : length lemmas < limit
  pub id : ℕ
  pub blocked : HasBlocked middle new (block_for e cand.state) id
  pub shown : IsShownIn e assumptions cand
  pub apart : (t : List Bool) → Contains (standing old.proof) (block_in e old.proof t) → cand.state ≢ t

-- the last lemma of the solve, within its limit, ends the step
pub record HasRefutedAll (assumptions : Clause) (limit : ℕ) (old new : SolverState) (id : ℕ) : Type 0 where
  pub lemmas : List Line
  pub searched : HasSearched old new assumptions lemmas
  pub few : length lemmas ≤ limit
  pub ended : new.stage ≡ Ended id

-- the solve logged its limit of lemmas, none of which ends the step; the limit is less than the number of values of the
-- variables that a unit run leaves open
pub record HasSpent (assumptions : Clause) (limit : ℕ) (old new : SolverState) : Type 0 where
  pub lemmas : List Line
  pub searched : HasSearched old new assumptions lemmas
  pub stopped : new.stage ≡ Stopped
  pub all : length lemmas ≡ limit
  pub bound : (run : List Literal) → IsUnitRun (standing old.proof) assumptions run → limit < 2 ^ (old.vars - length run)
  pub open_yet : AllByRecursion (λ line. is_open_lemma assumptions line ≡ true) lemmas

abbrev pub TurnsTo : Encoded → Clause → ℕ → SolverState → SolverState → TurnEnd → Type 0
TurnsTo e assumptions limit old new (Listed cand) = HasListedOne e assumptions limit old new cand
TurnsTo e assumptions limit old new (Refuted id) = HasRefutedAll assumptions limit old new id
TurnsTo e assumptions limit old new Spent = HasSpent assumptions limit old new

-- ---- a turn, where a candidate may be known

-- a state is blocked
pub record HasBlockedState (e : Encoded) (state : List Bool) (old new : SolverState) : Type 0 where
  pub id : ℕ
  pub blocked : HasBlocked old new (block_for e state) id

-- a solve was begun and nothing searched, and a state is blocked
pub record HasBlockedKnown (e : Encoded) (assumptions : Clause) (state : List Bool) (old new : SolverState) : Type 0 where
  pub middle : SolverState
  pub searched : HasSearched old middle assumptions []
  pub id : ℕ
  pub blocked : HasBlocked middle new (block_for e state) id

-- the known candidate was listed without a search, and its state is blocked
pub record HasListedKnown (e : Encoded) (assumptions : Clause) (known : Cand) (old new : SolverState) (cand : Cand) : Type 0 where
  pub is : cand ≡ known
  pub way : HasBlockedKnown e assumptions known.state old new

abbrev pub HasTakenKnown : Encoded → Clause → Cand → SolverState → SolverState → TurnEnd → Type 0
HasTakenKnown e assumptions known old new (Listed cand) = HasListedKnown e assumptions known old new cand
HasTakenKnown e assumptions known old new other = ⊥

-- an assignment shows the candidate, or it is known
abbrev pub IsOneOf : Encoded → Clause → Option Cand → Cand → Type 0
IsOneOf e assumptions known cand = IsShownIn e assumptions cand ⊎ (known ≡ Some cand)

-- One more candidate, whose state was not found before. A known candidate was found before or is this one.
pub record HasNext (e : Encoded) (assumptions : Clause) (limit : ℕ) (found : List Cand) (known : Option Cand) (old new : SolverState)
    (cand : Cand) : Type 0 where
  pub middle : SolverState
  pub lemmas : List Line
  pub searched : HasSearched old middle assumptions lemmas
  pub few : length lemmas < limit
  pub id : ℕ
  pub blocked : HasBlocked middle new (block_for e cand.state) id
  pub right : IsOneOf e assumptions known cand
  pub apart : ((t : List Bool) → Contains (standing old.proof) (block_in e old.proof t) → cand.state ≢ t) ⊎ (is_listed (listed found) cand.state ≡ false)
  pub last : (c : Cand) → known ≡ Some c → (is_listed (listed found) c.state ≡ true) ⊎ (c ≡ cand)

abbrev pub GoesTo : Encoded → Clause → ℕ → List Cand → Option Cand → SolverState → SolverState → TurnEnd → Type 0
GoesTo e assumptions limit found known old new (Listed cand) = HasNext e assumptions limit found known old new cand
GoesTo e assumptions limit found known old new (Refuted id) = HasRefutedAll assumptions limit old new id
GoesTo e assumptions limit found known old new Spent = HasSpent assumptions limit old new
