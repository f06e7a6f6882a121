use Rattle.std.proofs.Common.{arith}
use Rattle.bs_inspect_report_texts.proofs.DriveLemmas.{begin_more}
use Rattle.bs_inspect_report_texts.proofs.begin.begin_of.Goals as goal

pub steps-preserved : goal.steps-preserved
steps-preserved c =
    begin_more c.args.report.now.steps c.steps.i c.get.result.now c.steps.found c.moment_or-found.result
    (omega (arith, c.steps-test.true, c.len-i-end.ensures)) c.get.ensures.value c.steps.invariant c.moment_or-found.ensures
