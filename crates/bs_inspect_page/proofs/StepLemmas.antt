-- The row of a step that is there.
use Rattle.std.proofs.Common.{◌≡◌, ℕ, List, ap, sym, slice_get, Some}
use Rattle.std.specs.Prelude.{slice_index_or}
use Rattle.bs_report.specs.declared.report.Report.{Report}
use Rattle.bs_report.specs.declared.report.Step.{Step}
use Rattle.bs_inspect_page.specs.Steps.{step_at, step_if, step_text}

pub step_there : (r : Report) (lemmas : List ℕ) (i : ℕ) (step : Step) → slice_get r.steps i ≡ Some step →
    step_text r i (slice_index_or lemmas i 0) step ≡ step_at r lemmas i
step_there r lemmas i step e = sym (ap (step_if r i lemmas) e)
