-- A private search: whether one state is a predecessor.
use Rattle.std.specs.Prelude.{◌≡◌, ◌⊎◌, ℕ, ◌+◌, ◌-◌, ◌^◌, ◌<◌, ◌≤◌, true, false, List, [], ◌∷◌, ◌++◌, length, reverse, Bool, Option, Some, None, IfSome}
use Rattle.std.specs.Option.{option_to_list}
use Rattle.bs_scan.specs.declared.seen.Seen.{Seen}
use Rattle.bs_clause.specs.Literal.{Literal, Clause}
use Rattle.bs_clause.specs.Range.{HasVariables}
use Rattle.bs_clause.specs.UnitRun.{IsUnitRun}
use Rattle.bs_log.specs.History.{Problem, History, step_of, activation_of}
use Rattle.bs_log.specs.Lean.{IsLean}
use Rattle.bs_log.specs.Refusal.{assumptions_of, NoneRefused}
use Rattle.bs_log.specs.Refutation.{blocks_of}
use Rattle.bs_log.specs.Steps.{is_spent, last_solve}
use Rattle.bs_net.specs.Circuit.{Circuit}
use Rattle.bs_scan.specs.Choice.{Chosen, depth_of}
use Rattle.bs_scan.specs.Moments.{is_listed}
use Rattle.bs_scan.specs.Present.{Present}
use Rattle.bs_scan.specs.Signature.{predecessors}
use Rattle.bs_encode.specs.Encoded.{Encoded}
use Rattle.bs_encode.specs.Assuming.{signed, assumptions_for, asking, AreWide}
use Rattle.bs_encode.specs.Depth.{encoding_by}
use Rattle.bs_solve_lemmas.specs.declared.stage.Stage.TheVariants.{Idle}
use Rattle.bs_solve_lemmas.specs.ProofLog.{ProofLog}
use Rattle.bs_solve_lemmas.specs.Solver.{SolverState, HasEnded}
use Rattle.bs_preimage.specs.declared.probe.Engine.{Engine}
use Rattle.bs_preimage.specs.declared.probe.Probed.{Probed}
use Rattle.bs_preimage.specs.declared.probe.Probed.TheVariants.{Predecessor, NoPredecessor, Unknown}
use Rattle.bs_preimage.specs.declared.next_candidate.TurnEnd.{TurnEnd}
use Rattle.bs_preimage.specs.declared.next_candidate.TurnEnd.TheVariants.{Listed, Refuted, Spent}
use Rattle.bs_preimage.specs.Preimage.{next_activation}
use Rattle.bs_preimage.specs.Listed.{IsRightCand}
use Rattle.bs_preimage.specs.Rest.{IsAbout, ActivationsAreRetired, AxiomsStand}
use Rattle.bs_preimage.specs.Turn.{TurnsTo}
use Rattle.bs_preimage.specs.Step.{begun}

-- what answers whether states are predecessors, as a contract sees it
pub record Prober : Type 0 where
  pub circuit : Circuit
  pub choice : Chosen

-- one signature is kept, or both are there
abbrev pub MayProbe : Chosen → Option (List Bool) → Type 0
MayProbe choice None = depth_of choice ≡ 1
MayProbe choice (Some older) = depth_of choice ≡ 2

-- what a step assumes that is about one state
abbrev pub probing_for : Encoded → Literal → Present → List Bool → Clause
probing_for e activation q state = assumptions_for e activation q ++ signed e.states state

-- A solve whether a state is a predecessor spent its budget of b lemmas. There are the lines of a log over the encoding's clauses: none is
-- refused, and they are lean. The step under way assumes the present, what is stored and the state, and has no block. Its last solve, which
-- ends the lines, has exactly b lemmas, none of which ends the step. And b is less than the number of values of the variables that a unit
-- run over the encoding and what the step assumes leaves open.
pub record HasSpentBudget (e : Encoded) (q : Present) (state : List Bool) (b : ℕ) : Type 0 where
  pub problem : Problem
  pub history : History
  pub vars : problem.vars ≡ e.variables
  pub clauses : problem.clauses ≡ e.clauses
  pub assumed : assumptions_of problem (step_of history) ≡ probing_for e (activation_of problem (step_of history)) q state
  pub right : NoneRefused problem history
  pub lean : IsLean problem history
  pub clear : blocks_of history (step_of history) ≡ []
  pub spent : is_spent b (assumptions_of problem (step_of history)) (last_solve (reverse history)) ≡ true
  pub bound : (run : List Literal) → HasVariables e.variables run → IsUnitRun e.clauses (assumptions_of problem (step_of history)) run →
      b < 2 ^ (e.variables - length run)

-- It stays unknown whether the state is a predecessor, where b is the budget of a solve: this cannot be asked, or a solve of the question
-- spent its budget.
pub record IsUnknown (c : Circuit) (choice : Chosen) (present : Seen) (stored : List Bool) (older : Option (List Bool)) (state : List Bool) (b : ℕ) :
    Type 0 where
  pub why : (¬ MayProbe choice older) ⊎ HasSpentBudget (encoding_by c choice) (asking present stored older) state b

-- A state that is a predecessor comes as a candidate; of one that is none the answer says so; and it says nothing where that stays unknown.
abbrev pub IsProbed : Circuit → Chosen → Seen → List Bool → Option (List Bool) → List Bool → ℕ → Probed → Type 0
IsProbed c choice present stored older state b (Predecessor cand) = IsRightCand c choice present stored older cand × (cand.state ≡ state)
IsProbed c choice present stored older state b NoPredecessor =
    is_listed (predecessors c choice present (stored ∷ option_to_list older)) state ≡ false
IsProbed c choice present stored older state b Unknown = IsUnknown c choice present stored older state b

-- the same of the next step
abbrev pub probing_at : Encoded → ProofLog → Seen → List Bool → Option (List Bool) → List Bool → Clause
probing_at e b present stored older state = probing_for e (next_activation b.problem) (asking present stored older) state

-- no step is under way, and the next one has no block
pub record IsPaused (s : SolverState) : Type 0 where
  pub well : s.failed ≡ false
  pub idle : s.stage ≡ Idle
  pub activations : s.vars ≡ s.proof.problem.vars + length s.proof.problem.steps
  pub number : step_of s.proof.history ≡ length s.proof.problem.steps + 1
  pub stand : AxiomsStand s.proof
  pub retired : ActivationsAreRetired s.proof
  pub clear : blocks_of s.proof.history (step_of s.proof.history) ≡ []

-- the lemma that ends a step, if there is one
abbrev pub last_of : TurnEnd → Option ℕ
last_of (Listed cand) = None
last_of (Refuted id) = Some id
last_of Spent = None

abbrev pub probed_of : TurnEnd → Probed
probed_of (Listed cand) = Predecessor cand
probed_of (Refuted id) = NoPredecessor
probed_of Spent = Unknown

-- a step was begun, searched once and ended
pub record HasProbed (e : Encoded) (old new : SolverState) (assumptions : Clause) (limit : ℕ) (end : TurnEnd) : Type 0 where
  pub middle : SolverState
  pub turn : TurnsTo e assumptions limit (begun old) middle end
  pub ended : HasEnded middle new (last_of end)

-- the solver pauses, and has made so many steps about the circuit's encoding
pub record IsReadyFor (c : Circuit) (choice : Chosen) (e : Encoded) (s : SolverState) (count : ℕ) : Type 0 where
  pub about : IsAbout c choice e s.proof
  pub rest : IsPaused s
  pub steps : length s.proof.problem.steps ≡ count

-- the same of an engine
abbrev pub IsReadyEngine : Circuit → Chosen → Engine → Type 0
IsReadyEngine c choice engine = IsReadyFor c choice engine.encoding engine.solver engine.count

-- an engine, if there is one, is ready, while memory has not run out
pub record IsProbing (c : Circuit) (choice : Chosen) (engine : Option Engine) (failed : Bool) : Type 0 where
  pub width : choice.width ≡ length c.flops
  pub ready : failed ≡ false → IfSome engine (IsReadyEngine c choice)

-- a question has the widths of the circuit and its signature, and one signature is kept, or both are there
pub record IsQuestion (c : Circuit) (choice : Chosen) (present : Seen) (stored : List Bool) (older : Option (List Bool)) (state : List Bool) (b : ℕ) : Type 0 where
  pub present_width : length present.bits ≡ length c.flops
  pub stored_width : length stored ≡ length choice.items
  pub older_width : AreWide (length choice.items) older
  pub state_width : length state ≡ length c.flops
  pub may : MayProbe choice older
  pub limit : 1 ≤ b

-- a question was answered in a step of its own
pub record HasAnswered (c : Circuit) (choice : Chosen) (e : Encoded) (old new : SolverState) (present : Seen) (stored : List Bool)
    (older : Option (List Bool)) (state : List Bool) (b : ℕ) (answer : Probed) : Type 0 where
  pub ready : IsReadyFor c choice e new (length old.proof.problem.steps + 1)
  pub probed : IsProbed c choice present stored older state b answer
