use Rattle.std.proofs.Common.{◌∙◌, ap, Some}
use Rattle.std.specs.Prelude.{option_map}
use Rattle.bs_report.specs.declared.report.Step.{Step}
use Rattle.bs_report.specs.Valid.{cause_of_end}
use Rattle.bs_audit.proofs.LastLemmas.{last_is}
use Rattle.bs_audit.proofs.stop.last_cause.Goals as goal

pub returns-in-Some : goal.returns-in-Some
returns-in-Some c =
    ap Some c.cause_of_end.ensures ∙ ap (option_map (λ (step : Step). cause_of_end step step.end)) (c.in-Some.ensures.value ∙ last_is c.args.steps.now)
