-- The execution of an answer as a report.
use Rattle.std.proofs.Common.{◌≡◌, ◌∙◌, ℕ, ◌+◌, Bool, true, false, List, [], length, Option, Some, None, arith, refl, sym, ap}
use Rattle.bs_report.specs.declared.report.Report.{Report}
use Rattle.bs_reach.specs.declared.reach.Outcome.{Outcome}
use Rattle.bs_reach.specs.declared.reach.Outcome.TheVariants.{Reached, Unreached, Unknown}
use Rattle.bs_reach.specs.declared.reach.Reach.{Reach}
use Rattle.bs_reach_answer.specs.ReadingLaw.{HasAnswerText, HasExecution}
use Rattle.bs_reach_answer.specs.Shown.{HasTrace, execution_report, is_reached, report_in}

pub reached_shown : (r : Reach) (report : Report) → is_reached r.outcome ≡ true → report ≡ report_in r → Some report ≡ execution_report r
unfolding execution_report
reached_shown r report is e = ap (λ (x : Report). Some x) e ∙ sym (rw is refl)

pub unreached_shown : (r : Reach) → is_reached r.outcome ≡ false → None ≡ execution_report r
unfolding execution_report
unreached_shown r not = sym (rw not refl)

-- an execution has one state more than inputs
trace_of : (asked : ℕ) (outcome : Outcome) (states inputs : List (List Bool)) → is_reached outcome ≡ true → HasExecution asked outcome states inputs →
    length states ≡ length inputs + 1
trace_of asked (Reached j) states inputs is has = omega (arith, has.1, has.2)
trace_of asked Unreached states inputs is has = let t : false ≡ true = is in absurd cc
trace_of asked (Unknown j) states inputs is has = let t : false ≡ true = is in absurd cc

pub shown_trace : (r : Reach) (report : Report) → HasAnswerText r → is_reached r.outcome ≡ true → report ≡ report_in r → HasTrace report
shown_trace r report has is e = rw e (trace_of r.asked r.outcome r.states r.inputs is has.execution)
