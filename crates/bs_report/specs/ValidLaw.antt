-- A valid report is good, and a good one valid: what this rests on.
use Rattle.std.specs.Prelude.{◌≡◌, ℕ, ◌+◌, true, Bool, List, length, Some, slice_get}
use Rattle.bs_scan.specs.Seen.{Shows}
use Rattle.bs_net.specs.Circuit.{next}
use Rattle.bs_scan.specs.Signature.{agrees}
use Rattle.bs_log.specs.Shown.{Basis, Shown}
use Rattle.bs_report.specs.declared.report.Step.{Step}
use Rattle.bs_report.specs.declared.report.Report.{Report}
use Rattle.bs_scan.specs.Crash.{Crash, IsCrash}
use Rattle.bs_report.specs.Step.{stored_of}
use Rattle.bs_report.specs.Good.{IsGood}
use Rattle.bs_report.specs.Valid.{NamesBefores, IsLogged, IsValid}

-- The clauses and the steps' assumptions are those of the netlist: each predecessor is shown.
pub record IsEncoded (crash : Crash) (basis : Basis) (steps : List Step) : Type 0 where
  pub each_step : length basis.problem.steps ≡ length steps
  pub shown : (i : ℕ) (step : Step) (s x : List Bool) → slice_get steps i ≡ Some step →
      length s ≡ length crash.circuit.flops → length x ≡ length crash.circuit.inputs →
      agrees crash.circuit crash.choice (stored_of step) s ≡ true → Shows step.present (next crash.circuit s x) →
      Shown basis (length crash.circuit.flops) (i + 1) s

abbrev pub ValidIsGood : Type 0
ValidIsGood =
    (crash : Crash) (basis : Basis) (r : Report) → IsCrash crash → IsEncoded crash basis r.steps → IsValid crash basis r → IsGood crash r

abbrev pub GoodIsValid : Type 0
GoodIsValid =
    (crash : Crash) (basis : Basis) (r : Report) → IsCrash crash → IsGood crash r → NamesBefores crash r → IsLogged basis r → IsValid crash basis r
