-- One turn of a backtrace.
use Rattle.std.proofs.Common.{◌≡◌, inr, Bool, List, [], ◌∷◌, ◌++◌, refl, subst, sym, Option, Some, None}
use Rattle.std.specs.Prelude.{Result, Ok, Err, IfOk, MatchOption}
use Rattle.std.specs.Option.{option_to_list}
use Rattle.bs_scan.specs.declared.dump.Dump.{Dump}
use Rattle.bs_scan.specs.Crash.{Recording}
use Rattle.bs_scan.specs.Dump.{signatures_of}
use Rattle.bs_chip.specs.declared.first_hit.Hit.{Hit}
use Rattle.bs_report.specs.declared.report.Step.{Step}
use Rattle.bs_report.specs.declared.report.Stop.{Stop}
use Rattle.bs_report.specs.declared.report.Budgets.{Budgets}
use Rattle.bs_report.specs.Valid.{cause_of_end}
use Rattle.bs_preimage.specs.declared.listing.Listing.{Listing}
use Rattle.bs_preimage.specs.Preimage.{PreimageState}
use Rattle.bs_scan.specs.Moments.{Moment, moment}
use Rattle.bs_loop.specs.declared.known.SearchExtent.{SearchExtent}
use Rattle.bs_loop.specs.HitInput.{TakesRecorded}
use Rattle.bs_loop.specs.Turn.{step_of, HasLookedFrom, HasStepped, HasStopped}

-- what a turn has done, where the step stands behind the others, and the present is the moment hit
turned_here : (r : Recording) (budgets : Budgets) (steps more : List Step) (old new : PreimageState) (now next : Dump)
    (at next_at : Option Moment) (stored : List Bool)
    (listing : Listing) (step : Step) (reach : SearchExtent) (hit : Option Hit) (stop : Option Stop) →
    signatures_of now ≡ stored ∷ option_to_list now.older → HasLookedFrom r budgets old new now stored at listing hit reach → step ≡ step_of now stored listing hit →
    TakesRecorded r.circuit r.runs step → more ≡ steps ++ step ∷ [] →
    MatchOption hit (stop ≡ Some (cause_of_end step step.end)) (λ hit. (stop ≡ None) × (next ≡ hit.dump) × (next_at ≡ Some (moment hit.run hit.cycle))) →
    MatchOption stop (HasStepped r budgets steps more old new now next at next_at) (HasStopped r budgets steps more old new now at)
turned_here r budgets steps more old new now next at next_at stored listing step reach None stop held back is takes made ends =
    subst (λ (stop : Option Stop). MatchOption stop (HasStepped r budgets steps more old new now next at next_at) (HasStopped r budgets steps more old new now at)) (sym ends)
    (inr
    (record {
      step = step;
      back = record { stored = stored; held = held; listing = listing; reach = reach; from = back; step_is = is; takes = takes };
      made = made;
      cause = refl;
    }))
turned_here r budgets steps more old new now next at next_at stored listing step reach (Some hit) stop held back is takes made ends =
    subst (λ (stop : Option Stop). MatchOption stop (HasStepped r budgets steps more old new now next at next_at) (HasStopped r budgets steps more old new now at))
    (sym ends.0)
    (record {
      step = step;
      hit = hit;
      back = record { stored = stored; held = held; listing = listing; reach = reach; from = back; step_is = is; takes = takes };
      made = made;
      there = ends.1;
      next_is = ends.2;
    })

pub turned : {E : Type 0} (r : Recording) (budgets : Budgets) (steps more : List Step) (old new : PreimageState) (now next : Dump)
    (at next_at : Option Moment) (stored : List Bool)
    (listing : Listing) (step : Step) (reach : SearchExtent) (hit : Option Hit) (result : Result (Option Stop) E) →
    signatures_of now ≡ stored ∷ option_to_list now.older → HasLookedFrom r budgets old new now stored at listing hit reach → step ≡ step_of now stored listing hit →
    TakesRecorded r.circuit r.runs (step_of now stored listing hit) → IfOk result (λ _. more ≡ steps ++ step ∷ []) →
    IfOk result (λ stop. MatchOption hit (stop ≡ Some (cause_of_end step step.end)) (λ hit. (stop ≡ None) × (next ≡ hit.dump) × (next_at ≡ Some (moment hit.run hit.cycle)))) →
    IfOk result (λ stop. MatchOption stop (HasStepped r budgets steps more old new now next at next_at) (HasStopped r budgets steps more old new now at))
turned r budgets steps more old new now next at next_at stored listing step reach hit (Ok stop) held back is takes made ends =
    turned_here r budgets steps more old new now next at next_at stored listing step reach hit stop held back is (subst (TakesRecorded r.circuit r.runs) (sym is) takes) made ends
turned r budgets steps more old new now next at next_at stored listing step reach hit (Err want) held back is takes made ends = tt
