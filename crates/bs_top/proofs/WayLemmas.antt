-- The trace of a good report is a way of the chip: its states and inputs have their widths.
use Rattle.std.proofs.Common.{◌≡◌, suc, ◌+◌, Bool, true, List, [], ◌∷◌, ◌++◌, length, reverse, refl}
use Rattle.std.proofs.Common.{ap, sym, subst, ◌∙◌, Option, Some, None}
use Rattle.std.specs.Prelude.{filter_map, option_map, option_and_then, All}
use Rattle.std.specs.List.{AllByRecursion as Each, cons_option}
use Rattle.std.proofs.lemmas.List.{length-append, length-reverse, reverse-append}
use Rattle.std.proofs.lemmas.List.Elements.{All-append, All-from_recursion, recursion_from_All}
use Rattle.bs_scan.specs.Crash.{Crash, DumpFits}
use Rattle.bs_scan.specs.Moments.{is_listed}
use Rattle.bs_net.specs.Circuit.{Circuit}
use Rattle.bs_report.specs.declared.report.Cand.{Cand}
use Rattle.bs_report.specs.declared.report.HitLine.{HitLine}
use Rattle.bs_report.specs.declared.report.Step.{Step}
use Rattle.bs_report.specs.declared.report.Report.{Report}
use Rattle.bs_report.specs.Step.{stored_of, listed, IsRightStep, IsCandidate}
use Rattle.bs_report.specs.Trace.{hit_state, input_for, trace_end}
use Rattle.bs_report.specs.Good.{IsGood}
use Rattle.bs_report.proofs.ProgressLemmas.{hit_at}
use Rattle.bs_report.proofs.ExecutionLemmas.{cand_for, led_widths}
use Rattle.bs_report.proofs.WideLemmas.{end_width}
use Rattle.bs_wave.specs.Wave.{IsWayOf}

-- as many states as inputs, each of its width
record Ways (c : Circuit) (ss xs : List (List Bool)) : Type 0 where
  same : length ss ≡ length xs
  wide : Each (λ (s : List Bool). length s ≡ length c.flops) ss
  fed : Each (λ (x : List Bool). length x ≡ length c.inputs) xs

hit_way : (crash : Crash) (step : Step) (hit : HitLine) (ss xs : List (List Bool)) → IsRightStep crash step → step.hit ≡ Some hit →
    Ways crash.circuit ss xs → Ways crash.circuit (hit.state ∷ ss) (cons_option (input_for step hit.state) xs)
hit_way crash step hit ss xs right e rest =
    let reached : is_listed (listed step.cands) hit.state ≡ true = (hit_at crash step hit (sym e ∙ right.hit)).reached in
    let f = cand_for (IsCandidate crash.circuit crash.choice step.present (stored_of step)) step.cands hit.state
    (recursion_from_All (IsCandidate crash.circuit crash.choice step.present (stored_of step)) step.cands right.candidates) reached in
    let widths = led_widths crash.circuit f.cand.state f.cand.input f.right.leads.there f.right.leads.leads in
    let input : input_for step hit.state ≡ Some f.cand.input = ap (option_map (λ (c : Cand). c.input)) f.first in
    let more : Ways crash.circuit (hit.state ∷ ss) (f.cand.input ∷ xs) =
    record { same = ap suc rest.same; wide = (ap length (sym f.state) ∙ widths.0, rest.wide); fed = (widths.1, rest.fed) } in
    subst (λ (o : Option (List Bool)). Ways crash.circuit (hit.state ∷ ss) (cons_option o xs)) (sym input) more

steps_way : (crash : Crash) (steps : List Step) → Each (IsRightStep crash) steps →
    Ways crash.circuit (filter_map hit_state steps) (filter_map (λ step. option_and_then (input_for step) (hit_state step)) steps)
steps_way crash [] right = record { same = refl; wide = tt; fed = tt }
steps_way crash (step ∷ steps) right = by step.hit refl (steps_way crash steps right.1)
  where
    by : (o : Option HitLine) → step.hit ≡ o →
        Ways crash.circuit (filter_map hit_state steps) (filter_map (λ step. option_and_then (input_for step) (hit_state step)) steps) →
        Ways crash.circuit (cons_option (option_map (λ (h : HitLine). h.state) o) (filter_map hit_state steps))
        (cons_option (option_and_then (input_for step) (option_map (λ (h : HitLine). h.state) o))
        (filter_map (λ step. option_and_then (input_for step) (hit_state step)) steps))
    by None e rest = rest
    by (Some hit) e rest = hit_way crash step hit _ _ right.0 e rest

all_reverse : (P : List Bool → Type 0) (xs : List (List Bool)) → Each P xs → All P (reverse xs)
all_reverse P [] h = All-from_recursion P [] tt
all_reverse P (x ∷ xs) h =
    subst (λ (l : List (List Bool)). All P l) (sym (reverse-append (x ∷ []) xs))
    (All-append P (reverse xs) (x ∷ []) (all_reverse P xs h.1) (All-from_recursion P (x ∷ []) (h.0, tt)))

pub way_is : (crash : Crash) (r : Report) → DumpFits crash.circuit crash.choice crash.dump → IsGood crash r → IsWayOf crash.circuit r.states r.inputs
way_is crash r fits good =
    let c = crash.circuit in
    let ss : List (List Bool) = filter_map hit_state r.steps in
    let xs : List (List Bool) = filter_map (λ (step : Step). option_and_then (input_for step) (hit_state step)) r.steps in
    let way : Ways c ss xs = steps_way crash r.steps (recursion_from_All (IsRightStep crash) r.steps good.steps) in
    let W : List Bool → Type 0 = λ s. length s ≡ length c.flops in
    let X : List Bool → Type 0 = λ x. length x ≡ length c.inputs in
    let last : List Bool = (trace_end crash r.steps).bits in
    let states : All W (reverse ss ++ last ∷ []) =
    All-append W (reverse ss) (last ∷ []) (all_reverse W ss way.wide)
    (All-from_recursion W (last ∷ []) (end_width c crash.dump.state r.steps fits.state, tt)) in
    let inputs : All X (reverse xs) = all_reverse X xs way.fed in
    record {
      one_more =
          ap length good.trace.states
          ∙ (length-append (reverse ss) (last ∷ [])
          ∙ (ap (λ n. n + 1) (length-reverse ss ∙ (way.same ∙ sym (length-reverse xs))) ∙ ap (λ (l : List (List Bool)). length l + 1) (sym good.trace.inputs)));
      state_widths = subst (λ (l : List (List Bool)). All W l) (sym good.trace.states) states;
      input_widths = subst (λ (l : List (List Bool)). All X l) (sym good.trace.inputs) inputs;
    }
