use Rattle.std.proofs.Common.{◌∙◌, sym}
use Rattle.bs_audit.proofs.LogLemmas.{log_fails, log_goes_on, lines_more}
use Rattle.bs_audit.proofs.logged.wrong_log.Goals as goal

pub returns-in-Some : goal.returns-in-Some
returns-in-Some c =
    sym
    (c.steps.invariant.left
    ∙ log_fails c.args.encoding.now c.args.assumptions.now c.args.report.now c.steps.i c.get-in-steps.result.now c.get.result.now c.steps.rest.now
    c.split_step.result.0.now c.split_step.result.1.now c.in-Some.part
    c.get.ensures.lookup c.steps.invariant.lines c.split_step.ensures (rw c.len-i-end.ensures at c.steps-test.true) c.get-in-steps.ensures.value
    (sym c.in-Some.is ∙ (rw c.slice-own.ensures at c.in_ok-part.ensures)))

pub steps-preserved : goal.steps-preserved
steps-preserved c =
    record {
      lines =
          lines_more c.args.report.now.log c.steps.rest.now c.split_step.result.0.now c.split_step.result.1.now c.steps.i c.steps.invariant.lines
          c.split_step.ensures;
      left =
          c.steps.invariant.left
          ∙ log_goes_on c.args.encoding.now c.args.assumptions.now c.args.report.now c.steps.i c.get-in-steps.result.now c.get.result.now
          c.steps.rest.now c.split_step.result.0.now c.split_step.result.1.now
          c.get.ensures.lookup c.steps.invariant.lines c.split_step.ensures (rw c.len-i-end.ensures at c.steps-test.true) c.get-in-steps.ensures.value
          (sym c.in-None.is ∙ (rw c.slice-own.ensures at c.in_ok-part.ensures));
    }
