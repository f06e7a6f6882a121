-- The cause for which a backtrace stops.
use Rattle.std.specs.Prelude.{◌≡◌, ◌≢◌, Bool, List, [], length, Some, None}
use Rattle.std.specs.Option.{IsSomeAnd}
use Rattle.std.specs.List.{last_or}
use Rattle.bs_report.specs.declared.report.ListEnd.{ListEnd}
use Rattle.bs_report.specs.declared.report.ListEnd.TheVariants.{Finished, Candidates as ByCandidates, Conflicts as ByConflicts}
use Rattle.bs_report.specs.declared.report.Step.{Step}
use Rattle.bs_report.specs.declared.report.Stop.{Stop}
use Rattle.bs_report.specs.declared.report.Stop.TheVariants.{Reset, Length, Nohit, Empty, Candidates, Conflicts}
use Rattle.bs_report.specs.declared.report.Budgets.{Budgets}
use Rattle.bs_scan.specs.Crash.{Crash}
use Rattle.bs_scan.specs.Present.{present_in}
use Rattle.bs_report.specs.Chain.{last_present}

abbrev pub IsFinished : ListEnd → Type 0
IsFinished (Finished id) = Unit {0}
IsFinished end = ⊥

-- the last step is so
abbrev pub LastIs : List Step → (Step → Type 0) → Type 0
LastIs steps P = IsSomeAnd (last_or None steps) P

-- there is no step or the last one has a hit, and the register holds so there
abbrev pub StandsWith : Crash → List Step → (List (List Bool) → Type 0) → Type 0
StandsWith crash steps P = IsSomeAnd (last_present crash (Some (present_in crash.dump)) steps) (λ now. P now.stored)

abbrev pub StopsFor : Crash → Budgets → List Step → Stop → Type 0
StopsFor crash budgets steps Reset = StandsWith crash steps (λ stored. stored ≡ [])
StopsFor crash budgets steps Length = (length steps ≡ budgets.steps) × StandsWith crash steps (λ stored. stored ≢ [])
StopsFor crash budgets steps Nohit = LastIs steps (λ step. (step.hit ≡ None) × IsFinished step.end × (step.cands ≢ []))
StopsFor crash budgets steps Empty = LastIs steps (λ step. IsFinished step.end × (step.cands ≡ []))
StopsFor crash budgets steps Candidates = LastIs steps (λ step. (step.hit ≡ None) × (step.end ≡ ByCandidates))
StopsFor crash budgets steps Conflicts = LastIs steps (λ step. (step.hit ≡ None) × (step.end ≡ ByConflicts))
