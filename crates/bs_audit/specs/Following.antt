-- The parts of the steps, each from the present at which it is due to begin.
use Rattle.std.specs.Prelude.{◌≡◌, ℕ, ◌+◌, List, [], ◌∷◌, ◌++◌, length, map, Option, Some, None, option_map}
use Rattle.std.specs.List.{range_with_len}
use Rattle.bs_chip.specs.declared.first_hit.Hit.{Hit}
use Rattle.bs_scan.specs.Present.{Present, present_in}
use Rattle.bs_report.specs.declared.report.HitLine.{HitLine}
use Rattle.bs_report.specs.declared.report.Step.{Step}
use Rattle.bs_report.specs.declared.report.Budgets.{Budgets}
use Rattle.bs_report.specs.declared.report.Report.{Report}
use Rattle.bs_report.specs.declared.part.Part.{Part}
use Rattle.bs_report.specs.declared.part.Part.TheVariants as parts
use Rattle.bs_scan.specs.Crash.{Crash}
use Rattle.bs_report.specs.Step.{stored_of, hit_of}
use Rattle.bs_report.specs.Chain.{present_after, last_present}
use Rattle.bs_report.specs.Valid.{unless, has_state, has_stored, is_right_cand, is_right_count, same_hit, first_of_all}
use Rattle.bs_audit.specs.declared.steps.StepsWalk.{StepsWalk}
use Rattle.bs_audit.specs.declared.steps.StepsWalk.TheVariants.{Fails, Holds}

-- the hit line of a hit
abbrev pub line_of : Hit → HitLine
line_of hit = record { run = hit.run; cycle = hit.cycle; state = hit.dump.state.bits }

-- the parts of the candidates from one on
abbrev pub cand_parts : Crash → Budgets → ℕ → Step → ℕ → ℕ → List (Option Part)
cand_parts crash budgets i step from count =
    map (λ j. unless (is_right_cand crash budgets step j) (parts.Candidate (i + 1) (j + 1))) (range_with_len from count)

-- the parts behind the candidates
abbrev pub list_parts : Crash → Budgets → ℕ → Step → List (Option Part)
list_parts crash budgets i step =
    unless (is_right_count budgets step.end (length step.cands)) (parts.Listed (i + 1)) ∷
    unless (same_hit step.hit (hit_of crash step.cands)) (parts.Hit (i + 1)) ∷ []

-- the parts before the candidates, of a step that is due to begin at a present
abbrev pub begin_parts : ℕ → Option Present → Step → List (Option Part)
begin_parts i due step =
    unless (has_state due step.present) (parts.Present (i + 1)) ∷
    unless (has_stored due (stored_of step)) (parts.Stored (i + 1)) ∷ []

-- the parts of a step, counted from 0, that is due to begin at a present
abbrev pub parts_from : Crash → Budgets → ℕ → Option Present → Step → List (Option Part)
parts_from crash budgets i due step =
    begin_parts i due step ++ (cand_parts crash budgets i step 0 (length step.cands) ++ list_parts crash budgets i step)

-- the parts of steps one after another, of which the first is due to begin at a present
abbrev pub following_parts : Crash → Budgets → ℕ → Option Present → List Step → List (Option Part)
following_parts crash budgets i due [] = []
following_parts crash budgets i due (step ∷ steps) =
    parts_from crash budgets i due step ++ following_parts crash budgets (i + 1) (present_after crash step) steps

-- the first of them that fails
abbrev pub first_from : Crash → Budgets → ℕ → Option Present → List Step → Option Part
first_from crash budgets i due steps = first_of_all (following_parts crash budgets i due steps)

-- what is found behind the candidates: the first part that fails, or where the next step is due to begin
abbrev pub IsListed : Crash → Budgets → ℕ → Step → StepsWalk → Type 0
IsListed crash budgets i step (Fails part) = first_of_all (list_parts crash budgets i step) ≡ Some part
IsListed crash budgets i step (Holds next) =
    (first_of_all (list_parts crash budgets i step) ≡ None) × (present_after crash step ≡ option_map present_in next)

-- what is found of a step that is due to begin at a present: its first part that fails, or where the next one is due
abbrev pub IsTried : Crash → Budgets → ℕ → Option Present → Step → StepsWalk → Type 0
IsTried crash budgets i due step (Fails part) = first_of_all (parts_from crash budgets i due step) ≡ Some part
IsTried crash budgets i due step (Holds next) =
    (first_of_all (parts_from crash budgets i due step) ≡ None) × (present_after crash step ≡ option_map present_in next)

-- the same of all steps
abbrev pub IsWalked : Crash → Report → StepsWalk → Type 0
IsWalked crash r (Fails part) = first_from crash r.budgets 0 (Some (present_in crash.dump)) r.steps ≡ Some part
IsWalked crash r (Holds next) =
    (first_from crash r.budgets 0 (Some (present_in crash.dump)) r.steps ≡ None)
    × (last_present crash (Some (present_in crash.dump)) r.steps ≡ option_map present_in next)
