-- From turn to turn.
use Rattle.std.proofs.Common.{◌≡◌, ℕ, ◌+◌, ◌<◌, ◌≤◌, inl, inr, List, [], ◌∷◌, ◌++◌, length, refl, ap, subst, sym, ◌∙◌, Option, Some, None, arith}
use Rattle.std.specs.Prelude.{MatchOption, IfSome, option_map, option_and_then}
use Rattle.std.proofs.lemmas.List.{length-append}
use Rattle.std.proofs.lemmas.List.Elements.{All-from_recursion}
use Rattle.bs_scan.specs.declared.dump.Dump.{Dump}
use Rattle.bs_scan.specs.Choice.{depth_of, IsDepth}
use Rattle.bs_scan.proofs.CrashLemmas.{depth_is}
use Rattle.bs_scan.specs.Present.{present_in}
use Rattle.bs_chip.specs.declared.first_hit.Hit.{Hit}
use Rattle.bs_scan.specs.Crash.{Recording, crash_of, DumpFits}
use Rattle.bs_report.specs.declared.limits.TheConstants.{MAX_STEPS}
use Rattle.bs_scan.specs.Moments.{Moment, moment}
use Rattle.bs_report.specs.declared.report.HitLine.{HitLine}
use Rattle.bs_report.specs.declared.report.Step.{Step}
use Rattle.bs_report.specs.declared.report.Stop.{Stop}
use Rattle.bs_report.specs.declared.report.Stop.TheVariants.{Reset, Length}
use Rattle.bs_report.specs.declared.report.Budgets.{Budgets}
use Rattle.bs_report.specs.Text.{IsOfDepth}
use Rattle.bs_report.specs.Step.{hit_of, IsRightStep}
use Rattle.bs_report.specs.Valid.{HaveBefores}
use Rattle.bs_report.specs.Chain.{present_of_hit, present_after}
use Rattle.bs_report.specs.Stop.{StopsFor}
use Rattle.bs_report.proofs.LoopLemmas.{last_present_more, last_more}
use Rattle.bs_report.proofs.ProgressLemmas.{hit_at}
use Rattle.bs_preimage.specs.Preimage.{PreimageState, fresh}
use Rattle.bs_loop.specs.Budget.{IsBudget}
use Rattle.bs_loop.specs.HitInput.{TakesRecorded}
use Rattle.bs_loop.specs.Made.{HasMade}
use Rattle.bs_loop.specs.Turn.{line_of, HasItsDump, HasStepped, IsAtReset, IsUnhit, HasStopped}
use Rattle.bs_loop.specs.Recorded.{StandsIn}
use Rattle.bs_loop.specs.Way.{IsUnderWay, HasEnded}
use Rattle.bs_loop.proofs.MadeLemmas.{made_more}
use Rattle.bs_loop.proofs.MeetLemmas.{hit_fits, met}
use Rattle.bs_loop.proofs.StopLemmas.{stops_unhit, stops_at_reset, stops_here}

none_made : (r : Recording) (dump : Dump) (budgets : Budgets) → HasMade (crash_of r dump) budgets [] (fresh r.circuit r.choice)
none_made r dump budgets =
    record {
      state = refl;
      right = All-from_recursion (IsRightStep (crash_of r dump)) [] tt;
      older = All-from_recursion (λ (step : Step). IsOfDepth (depth_of r.choice) step.older) [] tt;
      befores = All-from_recursion (λ (step : Step). HaveBefores r.circuit r.choice step.older step.cands) [] tt;
      takes = All-from_recursion (TakesRecorded r.circuit r.runs) [] tt;
      follow = tt;
      back = λ i earlier later e h c. cc;
      few = tt;
      count = refl;
      logged = λ i step is. cc;
    }

pub starts : (r : Recording) (dump : Dump) (budgets : Budgets) (s : PreimageState) (now : Dump) → s ≡ fresh r.circuit r.choice → now ≡ dump →
    DumpFits r.circuit r.choice dump →
    IsUnderWay r dump budgets [] s now None 0
starts r dump budgets s now new same fits =
    subst (λ (now : Dump). IsUnderWay r dump budgets [] s now None 0) (sym same)
    (record {
      made = subst (HasMade (crash_of r dump) budgets []) (sym new) (none_made r dump budgets);
      stands = refl;
      last = refl;
      recorded = tt;
      fits = fits;
      count = refl;
    })

-- the moment of a hit
stands_there : (r : Recording) (now next : Dump) (step : Step) (hit : Hit) → step.hit ≡ Some (line_of hit) → step.hit ≡ hit_of (crash_of r now) step.cands →
    HasItsDump r hit → next ≡ hit.dump → StandsIn r next (moment hit.run hit.cycle)
stands_there r now next step hit line right is there =
    record { moment = (hit_at (crash_of r now) step (line_of hit) (sym line ∙ right)).run_cycle; dump = there ∙ is }

-- the moment hit is the next present
step_stands : (r : Recording) (dump next : Dump) (step : Step) (hit : Hit) → IsDepth (depth_of r.choice) → step.hit ≡ Some (line_of hit) →
    HasItsDump r hit → next ≡ hit.dump →
    present_after (crash_of r dump) step ≡ Some (present_in next)
step_stands r dump next step hit kept line is there =
    ap (option_map (present_of_hit (crash_of r dump))) line ∙ ap Some (met r dump hit kept is ∙ ap present_in (sym there))

pub stepped : (r : Recording) (dump : Dump) (budgets : Budgets) (steps more : List Step) (old new : PreimageState) (now next : Dump)
    (at next_at : Option Moment) (n : ℕ) →
    IsUnderWay r dump budgets steps old now at n → HasStepped r budgets steps more old new now next at next_at →
    IsUnderWay r dump budgets more new next next_at (n + 1)
stepped r dump budgets steps more old new now next at next_at n way s =
    let is : HasItsDump r s.hit = s.back.from.back.dump s.hit refl in
    let kept : IsDepth (depth_of r.choice) = depth_is r.circuit r.choice now way.fits in
    let line : s.step.hit ≡ Some (line_of s.hit) = ap (λ (step : Step). step.hit) s.back.step_is in
    let listed : s.back.listing.cands ≡ s.step.cands = ap (λ (step : Step). step.cands) (sym s.back.step_is) in
    let right : s.step.hit ≡ hit_of (crash_of r now) s.step.cands = line ∙ (s.back.from.back.line ∙ ap (hit_of (crash_of r now)) listed) in
    subst (λ (l : List Step). IsUnderWay r dump budgets l new next next_at (n + 1)) (sym s.made)
    (record {
      made = made_more r dump budgets steps old new now at s.step (Some s.hit) way.made way.stands way.fits way.last s.back;
      last = s.next_is
          ∙ sym (ap (option_and_then (λ (step : Step). option_map (λ (h : HitLine). moment h.run h.cycle) step.hit)) (last_more None steps s.step)
          ∙ ap (option_map (λ (h : HitLine). moment h.run h.cycle)) line);
      recorded = subst (λ (o : Option Moment). IfSome o (StandsIn r next)) (sym s.next_is) (stands_there r now next s.step s.hit line right is s.there);
      stands =
          last_present_more (crash_of r dump) (Some (present_in dump)) steps s.step
          ∙ step_stands r dump next s.step s.hit kept line is s.there;
      fits = subst (DumpFits r.circuit r.choice) (sym s.there) (hit_fits r s.hit kept is);
      count = length-append steps (s.step ∷ []) ∙ ap (λ (k : ℕ). k + 1) way.count;
    })

at_reset : (r : Recording) (dump : Dump) (budgets : Budgets) (steps more : List Step) (old new : PreimageState) (now : Dump) (at : Option Moment) (n : ℕ)
    (stop : Stop) → IsUnderWay r dump budgets steps old now at n → n < budgets.steps → IsAtReset steps more old new now stop → HasEnded (crash_of r dump) budgets more new stop
at_reset r dump budgets steps more old new now at n stop way below s =
    let count : length steps ≡ n = way.count in
    let cause : StopsFor (crash_of r dump) budgets steps stop =
    subst (StopsFor (crash_of r dump) budgets steps) (sym s.cause) (stops_at_reset (crash_of r dump) budgets steps now way.stands way.fits.sound s.none) in
    let old_ended : HasEnded (crash_of r dump) budgets steps old stop = record { made = way.made; few = omega (arith, below, count); cause = cause } in
    subst (λ (l : List Step). HasEnded (crash_of r dump) budgets l new stop) (sym s.same)
    (subst (λ (p : PreimageState). HasEnded (crash_of r dump) budgets steps p stop) (sym s.rest) old_ended)

unhit : (r : Recording) (dump : Dump) (budgets : Budgets) (steps more : List Step) (old new : PreimageState) (now : Dump) (at : Option Moment) (n : ℕ)
    (stop : Stop) → IsUnderWay r dump budgets steps old now at n → n < budgets.steps → IsUnhit r budgets steps more old new now at stop →
    HasEnded (crash_of r dump) budgets more new stop
unhit r dump budgets steps more old new now at n stop way below s =
    let count : length steps ≡ n = way.count in
    let longer : length (steps ++ s.step ∷ []) ≡ length steps + 1 = length-append steps (s.step ∷ []) in
    subst (λ (l : List Step). HasEnded (crash_of r dump) budgets l new stop) (sym s.made)
    (record {
      made = made_more r dump budgets steps old new now at s.step None way.made way.stands way.fits way.last s.back;
      few = omega (arith, below, count, longer);
      cause =
          subst (StopsFor (crash_of r dump) budgets (steps ++ s.step ∷ [])) (sym s.cause)
          (stops_unhit (crash_of r dump) budgets steps s.step (ap (λ (step : Step). step.hit) s.back.step_is));
    })

pub stopped : (r : Recording) (dump : Dump) (budgets : Budgets) (steps more : List Step) (old new : PreimageState) (now : Dump) (at : Option Moment) (n : ℕ)
    (stop : Stop) → IsUnderWay r dump budgets steps old now at n → n < budgets.steps → HasStopped r budgets steps more old new now at stop →
    HasEnded (crash_of r dump) budgets more new stop
stopped r dump budgets steps more old new now at n stop way below (inl s) = at_reset r dump budgets steps more old new now at n stop way below s
stopped r dump budgets steps more old new now at n stop way below (inr s) = unhit r dump budgets steps more old new now at n stop way below s

-- where all steps are made
pub all_made : (r : Recording) (dump : Dump) (budgets : Budgets) (steps : List Step) (s : PreimageState) (now : Dump) (at : Option Moment)
    (stop : Stop) → IsUnderWay r dump budgets steps s now at budgets.steps → MatchOption now.stored (stop ≡ Reset) (λ _. stop ≡ Length) →
    HasEnded (crash_of r dump) budgets steps s stop
all_made r dump budgets steps s now at stop way cause =
    let count : length steps ≡ budgets.steps = way.count in
    record {
      made = way.made;
      few = omega (arith, count);
      cause = stops_here
          (crash_of r dump) budgets steps now stop way.stands way.fits.sound way.count cause;
    }

-- what the next turn asks for
pub record IsReady (r : Recording) (budgets : Budgets) (s : PreimageState) : Type 0 where
  pub circuit : s.circuit ≡ r.circuit
  pub choice : s.choice ≡ r.choice
  pub calls : s.calls < MAX_STEPS

pub ready : (r : Recording) (dump : Dump) (budgets : Budgets) (steps : List Step) (s : PreimageState) (now : Dump) (at : Option Moment)
    (n : ℕ) → IsUnderWay r dump budgets steps s now at n → n < budgets.steps → IsBudget budgets → IsReady r budgets s
ready r dump budgets steps s now at n way below range =
    let calls : s.calls ≡ length steps = ap (λ (p : PreimageState). p.calls) way.made.state in
    let count : length steps ≡ n = way.count in
    let most : budgets.steps ≤ MAX_STEPS = range.steps.1 in
    record {
      circuit = ap (λ (p : PreimageState). p.circuit) way.made.state;
      choice = ap (λ (p : PreimageState). p.choice) way.made.state;
      calls = omega (arith, calls, count, most, below);
    }
