-- The widths of what a step lists.
use Rattle.std.proofs.Common.{◌≡◌, Bool, true, false, cond, List, [], ◌∷◌, length, refl, ap, sym, ◌∙◌, Option, Some, None}
use Rattle.std.specs.Prelude.{All, IfSome, find, option_and_then, option_map}
use Rattle.std.specs.List.{AllByRecursion as Each}
use Rattle.std.proofs.lemmas.List.Elements.{All-weaker, recursion_from_All}
use Rattle.bs_bits.specs.Bits.{bits_eq}
use Rattle.bs_scan.specs.declared.seen.Seen.{Seen}
use Rattle.bs_net.specs.Circuit.{Circuit, next}
use Rattle.bs_net.proofs.CallerLemmas.{length_next}
use Rattle.bs_scan.specs.Choice.{Chosen}
use Rattle.bs_scan.specs.Crash.{Crash}
use Rattle.bs_scan.proofs.SignatureLemmas.{bits_same_is}
use Rattle.bs_report.specs.declared.report.Cand.{Cand}
use Rattle.bs_report.specs.declared.report.Step.{Step}
use Rattle.bs_report.specs.Step.{stored_of, IsCandidate, IsRightStep}
use Rattle.bs_report.specs.Trace.{end_of, end_or, hit_state, input_for, led_to}
use Rattle.bs_report.proofs.ExecutionLemmas.{led_widths}
use Rattle.bs_report.specs.WideCands.{HasWideCands}

-- candidates of a present have the widths
pub wide_cands : (c : Circuit) (choice : Chosen) (step : Step) → All (IsCandidate c choice step.present (stored_of step)) step.cands → HasWideCands c step
wide_cands c choice step all =
    record {
      states = All-weaker (IsCandidate c choice step.present (stored_of step)) (λ (cand : Cand). length cand.state ≡ length c.flops)
          (λ cand is. (led_widths c cand.state cand.input is.leads.there is.leads.leads).0) step.cands all;
      inputs = All-weaker (IsCandidate c choice step.present (stored_of step)) (λ (cand : Cand). length cand.input ≡ length c.inputs)
          (λ cand is. (led_widths c cand.state cand.input is.leads.there is.leads.leads).1) step.cands all;
    }

-- so do those of right steps
pub wide_steps : (crash : Crash) (steps : List Step) → All (IsRightStep crash) steps → All (HasWideCands crash.circuit) steps
wide_steps crash steps right =
    All-weaker (IsRightStep crash) (HasWideCands crash.circuit) (λ step is. wide_cands crash.circuit crash.choice step is.candidates) steps right

-- a state for which an input is listed, and the input
record HasWidths (c : Circuit) (s x : List Bool) : Type 0 where
  state : length s ≡ length c.flops
  input : length x ≡ length c.inputs

found_widths : (c : Circuit) (cands : List Cand) (s x : List Bool) → Each (λ cand. length cand.state ≡ length c.flops) cands →
    Each (λ cand. length cand.input ≡ length c.inputs) cands →
    option_map (λ (cand : Cand). cand.input) (find (λ (cand : Cand). bits_eq cand.state s) cands) ≡ Some x → HasWidths c s x
found_widths c [] s x states inputs e = cc
found_widths c (cand ∷ cands) s x states inputs e = by (bits_eq cand.state s) refl e (found_widths c cands s x states.1 inputs.1)
  where
    by : (b : Bool) → bits_eq cand.state s ≡ b →
        option_map (λ (cand : Cand). cand.input) (cond b (Some cand) (find (λ (cand : Cand). bits_eq cand.state s) cands)) ≡ Some x →
        (option_map (λ (cand : Cand). cand.input) (find (λ (cand : Cand). bits_eq cand.state s) cands) ≡ Some x → HasWidths c s x) → HasWidths c s x
    by true same e later =
        let input : cand.input ≡ x = cc in
        record { state = ap length (sym (bits_same_is cand.state s same)) ∙ states.0; input = ap length (sym input) ∙ inputs.0 }
    by false other e later = later e

-- the input that a step lists for a state, if it lists one
pub input_widths : (c : Circuit) (step : Step) (s : List Bool) (input : Option (List Bool)) → HasWideCands c step → input ≡ input_for step s →
    IfSome input (λ x. (length s ≡ length c.flops) × (length x ≡ length c.inputs))
input_widths c step s None wide is = tt
input_widths c step s (Some x) wide is =
    let w : HasWidths c s x =
    found_widths c step.cands s x (recursion_from_All (λ (cand : Cand). length cand.state ≡ length c.flops) step.cands wide.states)
    (recursion_from_All (λ (cand : Cand). length cand.input ≡ length c.inputs) step.cands wide.inputs) (sym is) in
    (w.state, w.input)

-- ---- the state in which a trace ends

-- a state that a hit leads to has a bit for each flip-flop
led_width : (c : Circuit) (step : Step) (s : List Bool) → led_to c step ≡ Some s → length s ≡ length c.flops
led_width c step s e = by (hit_state step) e
  where
    under : (h : List Bool) (o : Option (List Bool)) → option_map (next c h) o ≡ Some s → length s ≡ length c.flops
    under h None e = cc
    under h (Some x) e = let is : next c h x ≡ s = cc in ap length (sym is) ∙ length_next c h x

    by : (o : Option (List Bool)) → option_and_then (λ h. option_map (next c h) (input_for step h)) o ≡ Some s → length s ≡ length c.flops
    by None e = cc
    by (Some h) e = under h (input_for step h) e

-- so has the last state of a trace
pub end_width : (c : Circuit) (dumped : Seen) (steps : List Step) → length dumped.bits ≡ length c.flops → length (end_of c dumped steps).bits ≡ length c.flops
end_width c dumped [] wide = wide
end_width c dumped (step ∷ steps) wide = by (led_to c step) refl
  where
    by : (o : Option (List Bool)) → led_to c step ≡ o → length (end_or dumped o).bits ≡ length c.flops
    by None e = wide
    by (Some s) e = led_width c step s e
