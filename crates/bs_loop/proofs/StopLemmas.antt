-- The cause of a stop.
use Rattle.std.proofs.Common.{◌≡◌, ◌≢◌, ℕ, Bool, true, false, List, [], ◌∷◌, ◌++◌, length, refl, ap, subst, sym, ◌∙◌, Option, Some, None}
use Rattle.std.specs.Prelude.{◌==◌, if◌then◌else◌, MatchOption}
use Rattle.std.specs.Option.{IsSomeAnd, option_to_list}
use Rattle.std.proofs.lemmas.Bool.{false≢true, eqb-true}
use Rattle.std.proofs.lemmas.List.{nil_from_length}
use Rattle.bs_scan.specs.declared.dump.Dump.{Dump}
use Rattle.bs_scan.specs.Dump.{signatures_of, IsDump}
use Rattle.bs_scan.specs.Present.{Present}
use Rattle.bs_report.specs.declared.report.Cand.{Cand}
use Rattle.bs_report.specs.declared.report.ListEnd.{ListEnd}
use Rattle.bs_report.specs.declared.report.ListEnd.TheVariants.{Finished, Candidates as ByCandidates, Conflicts as ByConflicts}
use Rattle.bs_report.specs.declared.report.Step.{Step}
use Rattle.bs_report.specs.declared.report.Stop.{Stop}
use Rattle.bs_report.specs.declared.report.Stop.TheVariants.{Reset, Length, Nohit, Empty}
use Rattle.bs_report.specs.declared.report.Budgets.{Budgets}
use Rattle.bs_scan.specs.Crash.{Crash}
use Rattle.bs_report.specs.Stop.{IsFinished, LastIs, StopsFor}
use Rattle.bs_report.specs.Valid.{cause_of_end}
use Rattle.bs_report.proofs.LoopLemmas.{last_more}
use Rattle.bs_loop.specs.Made.{StandsAt}

last_is : (P : Step → Type 0) (steps : List Step) (step : Step) → P step → LastIs (steps ++ step ∷ []) P
last_is P steps step p = subst (λ (o : Option Step). IsSomeAnd o P) (sym (last_more None steps step)) p

finished : (step : Step) (id : ℕ) → step.end ≡ Finished id → IsFinished step.end
finished step id e = subst IsFinished (sym e) tt

-- the cause after a step without a hit
pub stops_unhit : (crash : Crash) (budgets : Budgets) (steps : List Step) (step : Step) → step.hit ≡ None →
    StopsFor crash budgets (steps ++ step ∷ []) (cause_of_end step step.end)
stops_unhit crash budgets steps step none = by step.end refl
  where
    counted : (id : ℕ) (b : Bool) → (length step.cands == 0) ≡ b → step.end ≡ Finished id →
        StopsFor crash budgets (steps ++ step ∷ []) (if b then Empty else Nohit)
    counted id true zero e =
        last_is (λ (step : Step). IsFinished step.end × (step.cands ≡ [])) steps step
        (finished step id e, nil_from_length step.cands (eqb-true (length step.cands) 0 zero))
    counted id false some e =
        last_is (λ (step : Step). (step.hit ≡ None) × IsFinished step.end × (step.cands ≢ [])) steps step
        (none, finished step id e, λ empty. false≢true (sym some ∙ ap (λ (cands : List Cand). length cands == 0) empty))

    by : (end : ListEnd) → step.end ≡ end → StopsFor crash budgets (steps ++ step ∷ []) (cause_of_end step end)
    by (Finished id) e = counted id (length step.cands == 0) refl e
    by ByCandidates e = last_is (λ (step : Step). (step.hit ≡ None) × (step.end ≡ ByCandidates)) steps step (none, e)
    by ByConflicts e = last_is (λ (step : Step). (step.hit ≡ None) × (step.end ≡ ByConflicts)) steps step (none, e)

-- at a present without a stored signature
pub stops_at_reset : (crash : Crash) (budgets : Budgets) (steps : List Step) (now : Dump) → StandsAt crash steps now → IsDump now → now.stored ≡ None →
    StopsFor crash budgets steps Reset
stops_at_reset crash budgets steps now stands sound none =
    let held : signatures_of now ≡ [] =
    ap (λ (o : Option (List Bool)). option_to_list o ++ option_to_list now.older) none ∙ ap option_to_list (sound.behind none) in
    subst (λ (o : Option Present). IsSomeAnd o (λ (p : Present). p.stored ≡ [])) (sym stands) held

-- where all steps are made
pub stops_here : (crash : Crash) (budgets : Budgets) (steps : List Step) (now : Dump) (stop : Stop) → StandsAt crash steps now → IsDump now →
    length steps ≡ budgets.steps → MatchOption now.stored (stop ≡ Reset) (λ _. stop ≡ Length) → StopsFor crash budgets steps stop
stops_here crash budgets steps now stop stands sound all cause = by now.stored refl cause
  where
    by : (o : Option (List Bool)) → now.stored ≡ o → MatchOption o (stop ≡ Reset) (λ _. stop ≡ Length) → StopsFor crash budgets steps stop
    by None e s = subst (StopsFor crash budgets steps) (sym s) (stops_at_reset crash budgets steps now stands sound e)
    by (Some t) e s =
        let held : signatures_of now ≡ t ∷ option_to_list now.older = ap (λ (o : Option (List Bool)). option_to_list o ++ option_to_list now.older) e in
        subst (StopsFor crash budgets steps) (sym s) (
          all,
          subst (λ (o : Option Present). IsSomeAnd o (λ (p : Present). p.stored ≢ [])) (sym stands)
              (λ empty. let h : t ∷ option_to_list now.older ≡ [] = sym held ∙ empty in cc),
        )
