-- A trace has one state more than inputs.
use Rattle.std.proofs.Common.{◌≡◌, ℕ, suc, ◌+◌, Bool, List, [], ◌∷◌, length, reverse, refl, ap, sym, ◌∙◌, Option, Some, None}
use Rattle.std.specs.Prelude.{filter_map, option_map, option_and_then}
use Rattle.std.specs.List.{AllByRecursion as Each, cons_option}
use Rattle.std.proofs.lemmas.List.{length-append, length-reverse}
use Rattle.std.proofs.lemmas.List.Elements.{recursion_from_All}
use Rattle.bs_report.specs.declared.report.Cand.{Cand}
use Rattle.bs_report.specs.declared.report.HitLine.{HitLine}
use Rattle.bs_report.specs.declared.report.Step.{Step}
use Rattle.bs_report.specs.declared.report.Report.{Report}
use Rattle.bs_scan.specs.Crash.{Crash}
use Rattle.bs_report.specs.Step.{stored_of, IsCandidate, IsRightStep}
use Rattle.bs_report.specs.Trace.{hit_state, input_for, trace_end}
use Rattle.bs_report.specs.Good.{IsGood}
use Rattle.bs_report.proofs.ProgressLemmas.{hit_at}
use Rattle.bs_report.proofs.ExecutionLemmas.{cand_for}

-- the input behind a step's hit, if it has one
abbrev pub input_behind : Step → Option (List Bool)
input_behind step = option_and_then (input_for step) (hit_state step)

one_each : (crash : Crash) (steps : List Step) → Each (IsRightStep crash) steps → length (filter_map hit_state steps) ≡ length (filter_map input_behind steps)
one_each crash [] right = refl
one_each crash (step ∷ steps) right = by step.hit refl (one_each crash steps right.1)
  where
    by : (o : Option HitLine) → step.hit ≡ o → length (filter_map hit_state steps) ≡ length (filter_map input_behind steps) →
        length (filter_map hit_state (step ∷ steps)) ≡ length (filter_map input_behind (step ∷ steps))
    by None e rest =
        ap (λ (o : Option HitLine). length (cons_option (option_map (λ (h : HitLine). h.state) o) (filter_map hit_state steps))) e ∙ rest
        ∙ sym (ap (λ (o : Option HitLine). length
        (cons_option (option_and_then (input_for step) (option_map (λ (h : HitLine). h.state) o)) (filter_map input_behind steps))) e)
    by (Some hit) e rest =
        let f = cand_for (IsCandidate crash.circuit crash.choice step.present (stored_of step)) step.cands hit.state
        (recursion_from_All (IsCandidate crash.circuit crash.choice step.present (stored_of step)) step.cands right.0.candidates)
        (hit_at crash step hit (sym e ∙ right.0.hit)).reached in
        let input : input_behind step ≡ Some f.cand.input =
        ap (λ (o : Option HitLine). option_and_then (input_for step) (option_map (λ (h : HitLine). h.state) o)) e
        ∙ ap (option_map (λ (c : Cand). c.input)) f.first in
        ap (λ (o : Option HitLine). length (cons_option (option_map (λ (h : HitLine). h.state) o) (filter_map hit_state steps))) e ∙ ap suc rest
        ∙ sym (ap (λ (o : Option (List Bool)). length (cons_option o (filter_map input_behind steps))) input)

pub one_state_more : (crash : Crash) (r : Report) → IsGood crash r → length r.states ≡ length r.inputs + 1
one_state_more crash r good =
    let same = one_each crash r.steps (recursion_from_All (IsRightStep crash) r.steps good.steps) in
    ap length good.trace.states ∙ length-append (reverse (filter_map hit_state r.steps)) ((trace_end crash r.steps).bits ∷ [])
    ∙ ap (λ (n : ℕ). n + 1)
    (length-reverse (filter_map hit_state r.steps) ∙ same ∙ sym (length-reverse (filter_map input_behind r.steps)) ∙ sym (ap length good.trace.inputs))
