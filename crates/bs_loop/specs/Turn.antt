-- What one turn of a backtrace does.
use Rattle.std.specs.Prelude.{◌≡◌, ◌⊎◌, ◌+◌, Bool, List, [], ◌∷◌, ◌++◌, Option, Some, None, option_map}
use Rattle.std.specs.Option.{option_to_list}
use Rattle.bs_scan.specs.declared.dump.Dump.{Dump}
use Rattle.bs_scan.specs.Crash.{Recording, crash_of, dump_at}
use Rattle.bs_scan.specs.Dump.{signatures_of}
use Rattle.bs_scan.specs.Moments.{Moment, moment}
use Rattle.bs_chip.specs.declared.first_hit.Hit.{Hit}
use Rattle.bs_report.specs.declared.report.Cand.{Cand}
use Rattle.bs_report.specs.declared.report.HitLine.{HitLine}
use Rattle.bs_report.specs.declared.report.Step.{Step}
use Rattle.bs_report.specs.declared.report.Stop.{Stop}
use Rattle.bs_report.specs.declared.report.Stop.TheVariants.{Reset}
use Rattle.bs_report.specs.declared.report.Budgets.{Budgets}
use Rattle.bs_report.specs.Step.{hit_of}
use Rattle.bs_report.specs.Valid.{cause_of_end}
use Rattle.bs_preimage.specs.declared.listing.Listing.{Listing}
use Rattle.bs_preimage.specs.Preimage.{PreimageState}
use Rattle.bs_preimage.specs.Listed.{HasListed}
use Rattle.bs_loop.specs.HitInput.{TakesRecorded}
use Rattle.bs_loop.specs.KnownCand.{reach_by, IsAnswered}
use Rattle.bs_loop.specs.declared.known.SearchAnswer.{SearchAnswer}
use Rattle.bs_loop.specs.declared.known.SearchExtent.{SearchExtent}

-- the hit line of a hit
abbrev pub line_of : Hit → HitLine
line_of hit = record { run = hit.run; cycle = hit.cycle; state = hit.dump.state.bits }

-- the hit has the dump of its moment
abbrev pub HasItsDump : Recording → Hit → Type 0
HasItsDump r hit = hit.dump ≡ dump_at r (moment hit.run hit.cycle)

-- a list for a present and its stored signatures, where a candidate may be known, and the first moment of a run in a listed state
pub record HasLookedBack (r : Recording) (budgets : Budgets) (old new : PreimageState) (now : Dump) (stored : List Bool) (known : Option Cand)
    (listing : Listing) (hit : Option Hit) : Type 0 where
  pub listed : HasListed old new now.state stored now.older known budgets.candidates budgets.conflicts listing
  pub calls : new.calls ≡ old.calls + 1
  pub line : option_map line_of hit ≡ hit_of (crash_of r now) listing.cands
  pub dump : (h : Hit) → hit ≡ Some h → HasItsDump r h

-- the step of a list and of the moment that it hit
abbrev pub step_of : Dump → List Bool → Listing → Option Hit → Step
step_of now stored listing hit =
    record { present = now.state; stored = stored; older = now.older; cands = listing.cands; end = listing.end; hit = option_map line_of hit }

-- a list for a present and its stored signatures, and what was answered for it
pub record HasListedFrom (r : Recording) (budgets : Budgets) (old new : PreimageState) (now : Dump) (stored : List Bool) (at : Option Moment)
    (listing : Listing) (answer : Option SearchAnswer) : Type 0 where
  pub known : Option Cand
  pub listed : HasListed old new now.state stored now.older known budgets.candidates budgets.conflicts listing
  pub calls : new.calls ≡ old.calls + 1
  pub answered : IsAnswered r now stored budgets.conflicts at listing.end known answer

-- the same with the first moment of a run in a listed state, and how far the recorded moments were searched
pub record HasLookedFrom (r : Recording) (budgets : Budgets) (old new : PreimageState) (now : Dump) (stored : List Bool) (at : Option Moment)
    (listing : Listing) (hit : Option Hit) (reach : SearchExtent) : Type 0 where
  pub known : Option Cand
  pub answer : Option SearchAnswer
  pub answered : IsAnswered r now stored budgets.conflicts at listing.end known answer
  pub reach_is : reach ≡ reach_by answer
  pub back : HasLookedBack r budgets old new now stored known listing hit

-- a step back from a present, which may be at a moment, and the moment that it hit
pub record IsStepBack (r : Recording) (budgets : Budgets) (old new : PreimageState) (now : Dump) (at : Option Moment) (step : Step)
    (hit : Option Hit) : Type 0 where
  pub stored : List Bool
  pub held : signatures_of now ≡ stored ∷ option_to_list now.older
  pub listing : Listing
  pub reach : SearchExtent
  pub from : HasLookedFrom r budgets old new now stored at listing hit reach
  pub step_is : step ≡ step_of now stored listing hit
  pub takes : TakesRecorded r.circuit r.runs step

-- one more step, with a hit, whose moment is the next present
pub record HasStepped (r : Recording) (budgets : Budgets) (steps more : List Step) (old new : PreimageState) (now next : Dump)
    (at next_at : Option Moment) : Type 0 where
  pub step : Step
  pub hit : Hit
  pub back : IsStepBack r budgets old new now at step (Some hit)
  pub made : more ≡ steps ++ step ∷ []
  pub there : next ≡ hit.dump
  pub next_is : next_at ≡ Some (moment hit.run hit.cycle)

-- the present has no stored signature, and no step is made
pub record IsAtReset (steps more : List Step) (old new : PreimageState) (now : Dump) (stop : Stop) : Type 0 where
  pub none : now.stored ≡ None
  pub cause : stop ≡ Reset
  pub same : more ≡ steps
  pub rest : new ≡ old

-- one more step, without a hit
pub record IsUnhit (r : Recording) (budgets : Budgets) (steps more : List Step) (old new : PreimageState) (now : Dump) (at : Option Moment)
    (stop : Stop) : Type 0 where
  pub step : Step
  pub back : IsStepBack r budgets old new now at step None
  pub made : more ≡ steps ++ step ∷ []
  pub cause : stop ≡ cause_of_end step step.end

abbrev pub HasStopped : Recording → Budgets → List Step → List Step → PreimageState → PreimageState → Dump → Option Moment → Stop → Type 0
HasStopped r budgets steps more old new now at stop =
    IsAtReset steps more old new now stop ⊎ IsUnhit r budgets steps more old new now at stop
