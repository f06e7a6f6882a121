-- What one more step does to the chain, the last present and the trace.
use Rattle.std.proofs.Common.{◌≡◌, ℕ, suc, zero, ◌+◌, Bool, List, [], ◌∷◌, ◌++◌, reverse, refl, ap, subst, ◌∙◌, Option, Some, None, add-one}
use Rattle.std.specs.Prelude.{filter_map, option_and_then, option_map, slice_get}
use Rattle.std.specs.List.{cons_option, last_or}
use Rattle.std.proofs.lemmas.List.{reverse-append}
use Rattle.std.proofs.lemmas.List.Elements.{filter_map-append}
use Rattle.bs_report.specs.declared.report.HitLine.{HitLine}
use Rattle.bs_report.specs.declared.report.ListEnd.TheVariants.{Candidates}
use Rattle.bs_report.specs.declared.report.Step.{Step}
use Rattle.bs_scan.specs.Crash.{Crash}
use Rattle.bs_scan.specs.Present.{Present}
use Rattle.bs_report.specs.Chain.{present_of, present_after, last_present, Follow}
use Rattle.bs_report.specs.Progress.{ListsBefore, ListBefore}
use Rattle.bs_report.specs.Trace.{hit_state, input_for, trace_states, trace_inputs}

pub follow_more : (crash : Crash) (now : Option Present) (steps : List Step) (step : Step) → Follow crash now steps →
    last_present crash now steps ≡ Some (present_of step) → Follow crash now (steps ++ step ∷ [])
follow_more crash now [] step f e = (e, tt)
follow_more crash now (s ∷ ss) step f e = (f.0, follow_more crash (present_after crash s) ss step f.1 e)

pub last_present_more : (crash : Crash) (now : Option Present) (steps : List Step) (step : Step) →
    last_present crash now (steps ++ step ∷ []) ≡ present_after crash step
last_present_more crash now [] step = refl
last_present_more crash now (s ∷ ss) step = last_present_more crash (present_after crash s) ss step

reverse_more : (f : Step → Option (List Bool)) (steps : List Step) (step : Step) (x : List Bool) → f step ≡ Some x →
    reverse (filter_map f (steps ++ step ∷ [])) ≡ x ∷ reverse (filter_map f steps)
reverse_more f steps step x e =
    ap reverse (filter_map-append f steps (step ∷ []) ∙ ap (λ (o : Option (List Bool)). filter_map f steps ++ cons_option o []) e)
    ∙ reverse-append (filter_map f steps) (x ∷ [])

pub trace_states_more : (dumped : List Bool) (steps : List Step) (step : Step) (hit : HitLine) → step.hit ≡ Some hit →
    trace_states dumped (steps ++ step ∷ []) ≡ hit.state ∷ trace_states dumped steps
trace_states_more dumped steps step hit e =
    ap (λ (l : List (List Bool)). l ++ dumped ∷ []) (reverse_more hit_state steps step hit.state (ap (option_map (λ (h : HitLine). h.state)) e))

pub trace_inputs_more : (steps : List Step) (step : Step) (hit : HitLine) (x : List Bool) → step.hit ≡ Some hit → input_for step hit.state ≡ Some x →
    trace_inputs (steps ++ step ∷ []) ≡ x ∷ trace_inputs steps
trace_inputs_more steps step hit x e i =
    reverse_more (λ (step : Step). option_and_then (input_for step) (hit_state step)) steps step x
    (ap (λ (o : Option HitLine). option_and_then (input_for step) (option_map (λ (h : HitLine). h.state) o)) e ∙ i)

-- the last step of a list with one more
pub last_more : (o : Option Step) (steps : List Step) (step : Step) → last_or o (steps ++ step ∷ []) ≡ Some step
last_more o [] step = refl
last_more o (s ∷ steps) step = last_more (Some s) steps step

-- one more step that lists the state before the last hit
before_here : (crash : Crash) (steps : List Step) (step : Step) →
    ((i : ℕ) (earlier later : Step) → slice_get steps i ≡ Some earlier → slice_get steps (suc i) ≡ Some later → later.end ≡ Candidates →
    ListsBefore crash earlier later) →
    ((earlier : Step) → last_or None steps ≡ Some earlier → step.end ≡ Candidates → ListsBefore crash earlier step) →
    (i : ℕ) (earlier later : Step) → slice_get (steps ++ step ∷ []) i ≡ Some earlier → slice_get (steps ++ step ∷ []) (suc i) ≡ Some later →
    later.end ≡ Candidates → ListsBefore crash earlier later
before_here crash [] step old last i earlier later e h c = cc
before_here crash (a ∷ []) step old last zero earlier later e h c =
    let first : a ≡ earlier = cc in
    let second : step ≡ later = cc in
    subst (ListsBefore crash earlier) second
    (subst (λ (x : Step). ListsBefore crash x step) first (last a refl (ap (λ (x : Step). x.end) second ∙ c)))
before_here crash (a ∷ []) step old last (suc i) earlier later e h c = cc
before_here crash (a ∷ b ∷ bs) step old last zero earlier later e h c = old zero earlier later e h c
before_here crash (a ∷ b ∷ bs) step old last (suc i) earlier later e h c =
    before_here crash (b ∷ bs) step (λ j x y p q r. old (suc j) x y p q r) (λ x p r. last x p r) i earlier later e h c

pub before_more : (crash : Crash) (steps : List Step) (step : Step) → ListBefore crash steps →
    ((earlier : Step) → last_or None steps ≡ Some earlier → step.end ≡ Candidates → ListsBefore crash earlier step) → ListBefore crash (steps ++ step ∷ [])
before_more crash steps step old last i earlier later e h c =
    before_here crash steps step (λ j x y p q r. old j x y p (rw add-one q) r) last i earlier later e (rw add-one at h) c
