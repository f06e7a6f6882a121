-- The steps that a backtrace has made so far.
use Rattle.std.specs.Prelude.{◌≡◌, ℕ, ◌+◌, ◌-◌, ◌<◌, ◌^◌, true, false, List, [], length, map, reverse, All, Some, slice_get, slice_index_or}
use Rattle.bs_clause.specs.Literal.{Literal}
use Rattle.bs_clause.specs.UnitRun.{IsUnitRun}
use Rattle.bs_clause.specs.Range.{HasVariables}
use Rattle.bs_log.specs.declared.line.Line.{Line}
use Rattle.bs_log.specs.History.{History}
use Rattle.bs_log.specs.Steps.{steps_of}
use Rattle.bs_scan.specs.declared.dump.Dump.{Dump}
use Rattle.bs_scan.specs.Choice.{depth_of}
use Rattle.bs_scan.specs.Present.{present_in}
use Rattle.bs_encode.specs.Tables.{lit}
use Rattle.bs_encode.specs.Encoded.{Encoded}
use Rattle.bs_encode.specs.Depth.{encoding_by}
use Rattle.bs_encode.specs.Assuming.{assumptions_for, block_for, problem_of}
use Rattle.bs_report.specs.declared.report.ListEnd.TheVariants.{Conflicts}
use Rattle.bs_report.specs.declared.report.Step.{Step}
use Rattle.bs_report.specs.declared.report.Budgets.{Budgets}
use Rattle.bs_report.specs.Text.{IsOfDepth}
use Rattle.bs_scan.specs.Crash.{Crash}
use Rattle.bs_report.specs.Step.{asked_of, IsRightStep, IsRightEnd}
use Rattle.bs_report.specs.Chain.{present_of, last_present, Follow}
use Rattle.bs_report.specs.Progress.{ListBefore}
use Rattle.bs_solve.specs.Budget.{HasFewLemmas}
use Rattle.bs_report.specs.Valid.{HaveBefores, blocks_due, are_right_blocks, blocks_in, is_right_finish, finishes_in}
use Rattle.bs_preimage.specs.Preimage.{PreimageState}
use Rattle.bs_loop.specs.HitInput.{TakesRecorded}

-- the clauses of the crash's circuit and signature
abbrev pub encoding_in : Crash → Encoded
encoding_in crash = encoding_by crash.circuit crash.choice

-- the activation literal of a step, counted from 0
abbrev pub activation_at : Crash → ℕ → Literal
activation_at crash i = lit ((encoding_in crash).variables + (i + 1)) true

-- the lines of a step, counted from 0, say what its list says
pub record IsLoggedStep (crash : Crash) (budgets : Budgets) (i : ℕ) (lines : List Line) (step : Step) : Type 0 where
  pub ends : IsRightEnd (asked_of crash step) budgets.candidates budgets.conflicts lines step.cands step.end
  pub blocks : are_right_blocks (blocks_due (activation_at crash i) (block_for (encoding_in crash)) step.cands) (blocks_in lines) ≡ true
  pub finish : is_right_finish budgets.conflicts (assumptions_for (encoding_in crash) (activation_at crash i) (present_of step)) lines step.end
      (finishes_in lines) ≡ true
  pub bound : step.end ≡ Conflicts → (run : List Literal) → HasVariables (encoding_in crash).variables run →
      IsUnitRun (encoding_in crash).clauses (assumptions_for (encoding_in crash) (activation_at crash i) (present_of step)) run →
      budgets.conflicts < 2 ^ ((encoding_in crash).variables - length run)

-- where the search is after these steps, whose lines are these, the newest first
abbrev pub state_after : Crash → List Step → History → PreimageState
state_after crash steps history =
    record {
      circuit = crash.circuit;
      choice = crash.choice;
      problem = problem_of (encoding_in crash) (map present_of steps);
      history = history;
      calls = length steps;
      failed = false;
    }

-- each step is right, and follows from the one before; a list that ended by its count has the moment before the hit of the
-- step before; the log has the lines of each
pub record HasMade (crash : Crash) (budgets : Budgets) (steps : List Step) (s : PreimageState) : Type 0 where
  pub state : s ≡ state_after crash steps s.history
  pub right : All (IsRightStep crash) steps
  pub older : All (λ step. IsOfDepth (depth_of crash.choice) step.older) steps
  pub befores : All (λ step. HaveBefores crash.circuit crash.choice step.older step.cands) steps
  pub takes : All (TakesRecorded crash.circuit crash.runs) steps
  pub follow : Follow crash (Some (present_in crash.dump)) steps
  pub back : ListBefore crash steps
  pub few : HasFewLemmas budgets.conflicts s.history
  pub count : length (steps_of (reverse s.history)) ≡ length steps
  pub logged : (i : ℕ) (step : Step) → slice_get steps i ≡ Some step →
      IsLoggedStep crash budgets i (slice_index_or (steps_of (reverse s.history)) i []) step

-- the present is the dump, or where the last step has its hit
abbrev pub StandsAt : Crash → List Step → Dump → Type 0
StandsAt crash steps now = last_present crash (Some (present_in crash.dump)) steps ≡ Some (present_in now)
