use Rattle.std.proofs.Common.{◌∙◌, sym}
use Rattle.std.specs.Prelude.{option_map, option_and_then}
use Rattle.bs_report.specs.declared.report.Step.{Step}
use Rattle.bs_report.specs.Trace.{hit_state, input_for}
use Rattle.bs_audit.proofs.Cuts.{cut_once, uncut_once}
use Rattle.bs_audit.proofs.trace.are_inputs.Goals as goal

pub returns-in-None : goal.returns-in-None
returns-in-None c =
    sym
    (c.steps.invariant
    ∙ uncut_once (λ (step : Step). option_and_then (input_for step)
    (hit_state step)) c.args.steps.now c.steps.step-index c.step-item.result c.steps.left.now
    (option_map (λ bits. bits.now) c.hit_input.result) c.steps-test.true c.step-item.is c.hit_input.ensures c.in-None.ensures)

pub steps-preserved : goal.steps-preserved
steps-preserved c =
    c.steps.invariant
    ∙ cut_once (λ (step : Step). option_and_then (input_for step)
    (hit_state step)) c.args.steps.now c.steps.step-index c.step-item.result c.steps.left.now c.in-Some.front.now
    (option_map (λ bits. bits.now) c.hit_input.result) c.steps-test.true c.step-item.is c.hit_input.ensures c.in-Some.ensures
