-- The sizes of a good report.
use Rattle.std.proofs.Common.{◌≡◌, ℕ, suc, ◌<◌, ◌≤◌, Bool, List, [], ◌∷◌, length, refl, Some, arith}
use Rattle.std.specs.Prelude.{slice_get, slice_index_or, All}
use Rattle.std.specs.List.{AllByRecursion as Each}
use Rattle.std.proofs.lemmas.List.Elements.{All-from_recursion}
use Rattle.bs_log.specs.declared.line.Line.{Line}
use Rattle.bs_log.specs.Steps.{steps_of}
use Rattle.bs_report.specs.declared.limits.TheConstants.{MAX_STEPS, MAX_CANDIDATES}
use Rattle.bs_report.specs.declared.report.Cand.{Cand}
use Rattle.bs_report.specs.declared.report.ListEnd.{ListEnd}
use Rattle.bs_report.specs.declared.report.ListEnd.TheVariants.{Finished, Candidates, Conflicts}
use Rattle.bs_report.specs.declared.report.Step.{Step}
use Rattle.bs_report.specs.declared.report.Report.{Report}
use Rattle.bs_scan.specs.Crash.{Crash}
use Rattle.bs_report.specs.Step.{asked_of, IsRightEnd}
use Rattle.bs_report.specs.Good.{IsGood}

few_cands : (asked : List (List Bool)) (k b : ℕ) (lines : List Line) (cands : List Cand) (end : ListEnd) → IsRightEnd asked k b lines cands end →
    length cands ≤ k
few_cands asked k b lines cands (Finished id) right = let below : length cands < k = right.1 in omega (arith, below)
few_cands asked k b lines cands Candidates right = omega (arith, right)
few_cands asked k b lines cands Conflicts right = let below : length cands < k = right.0 in omega (arith, below)

each_from : (P : Step → Type 0) (steps : List Step) → ((i : ℕ) (step : Step) → slice_get steps i ≡ Some step → P step) → Each P steps
each_from P [] h = tt
each_from P (step ∷ steps) h = (h 0 step refl, each_from P steps (λ i s is. h (suc i) s is))

pub few_steps : (crash : Crash) (r : Report) → IsGood crash r → r.budgets.steps ≤ MAX_STEPS → length r.steps ≤ MAX_STEPS
few_steps crash r good most = let few : length r.steps ≤ r.budgets.steps = good.chain.few in omega (arith, few, most)

pub few_listed : (crash : Crash) (r : Report) → IsGood crash r → r.budgets.candidates ≤ MAX_CANDIDATES → All
    (λ step. length step.cands ≤ MAX_CANDIDATES) r.steps
few_listed crash r good most =
    All-from_recursion (λ (step : Step). length step.cands ≤ MAX_CANDIDATES) r.steps
    (each_from (λ (step : Step). length step.cands ≤ MAX_CANDIDATES) r.steps
    (λ i step is.
    let few : length step.cands ≤ r.budgets.candidates =
    few_cands (asked_of crash step) r.budgets.candidates r.budgets.conflicts (slice_index_or (steps_of r.log) i []) step.cands step.end (good.ends i step is) in
    omega (arith, few, most)))
