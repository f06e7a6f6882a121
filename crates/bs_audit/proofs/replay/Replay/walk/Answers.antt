use Rattle.std.proofs.Common.{◌∙◌}
use Rattle.std.specs.Prelude.{option_map}
use Rattle.bs_scan.specs.Present.{present_in}
use Rattle.bs_audit.proofs.Follows.{walk_fails, walk_goes_on}
use Rattle.bs_audit.proofs.replay.Replay.walk.Goals as goal

pub returns-in-Fails-clause-walked : goal.returns-in-Fails-clause-walked
returns-in-Fails-clause-walked c =
    c.steps.invariant.rest
    ∙ walk_fails c.args.self.now c.steps.self c.steps.invariant.kept c.args.report.now.budgets c.steps.i
    (option_map present_in c.steps.due) c.args.report.now.steps c.get.result.now c.in_ok-part.field-0 c.in-Fails.part
    c.in-Fails.is c.in_ok-part.ensures.tried (rw c.len-i-end.ensures at c.steps-test.true) c.get.ensures.value

pub steps-preserved : goal.steps-preserved
steps-preserved c =
    let on =
    walk_goes_on c.args.self.now c.steps.self c.steps.invariant.kept c.args.report.now.budgets c.steps.i
    (option_map present_in c.steps.due) c.args.report.now.steps c.get.result.now c.in_ok-part.field-0 c.in-Holds.next
    c.in-Holds.is c.in_ok-part.ensures.tried (rw c.len-i-end.ensures at c.steps-test.true) c.get.ensures.value in
    record {
      kept = c.in_ok-part.ensures.kept ∙ c.steps.invariant.kept;
      rest = c.steps.invariant.rest ∙ on.rest;
      last = c.steps.invariant.last ∙ on.last;
    }
