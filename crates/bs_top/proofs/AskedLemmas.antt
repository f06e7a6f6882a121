-- The job that words ask for, by what was read of them.
use Rattle.std.proofs.Common.{◌≡◌, ℕ, ◌≤◌, List, Some, sym}
use Rattle.bs_top_words.specs.Job.{RunJob, ReachJob, Run, Reach, job_of}
use Rattle.bs_top_words.proofs.BudgetLemmas.{FitsRun, FitsReach, job_fits}
use Rattle.bs_loop.specs.Budget.{IsBudget}
use Rattle.bs_reach_unrolled.specs.declared.limits.TheConstants.{MAX_FRAMES}
use Rattle.bs_top.specs.Work.{budgets_of}

-- the budgets of a run that words ask for are in their ranges
pub budget_is : (words : List (List ℕ)) (job : RunJob) → Some (Run job) ≡ job_of words → IsBudget (budgets_of job)
budget_is words job e =
    let fits : FitsRun job = job_fits words (Run job) (sym e) in
    record {
      steps = (fits.steps.low, fits.steps.most);
      candidates = (fits.candidates.low, fits.candidates.most);
      conflicts = (fits.conflicts.low, fits.conflicts.most);
    }

-- so are the cycles and the budget of a search
pub cycles_fit : (words : List (List ℕ)) (job : ReachJob) → Some (Reach job) ≡ job_of words → job.cycles ≤ MAX_FRAMES
cycles_fit words job e =
    let fits : FitsReach job = job_fits words (Reach job) (sym e) in
    fits.cycles

pub conflicts_fit : (words : List (List ℕ)) (job : ReachJob) → Some (Reach job) ≡ job_of words → 1 ≤ job.conflicts
conflicts_fit words job e =
    let fits : FitsReach job = job_fits words (Reach job) (sym e) in
    fits.conflicts.low
