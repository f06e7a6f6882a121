use Rattle.std.proofs.Common.{length}
use Rattle.bs_log.specs.Steps.{last_solve, is_spent}
use Rattle.bs_report.specs.Valid.{finishes_in}
use Rattle.bs_audit.specs.StepLines.{undeleted}
use Rattle.bs_audit.proofs.Lines.{spent_after}
use Rattle.bs_audit.proofs.list_end.ends_spent.Goals as goal

pub returns : goal.returns
returns c =
    spent_after c.in_ok-is_unfinished.field-0 (length (finishes_in c.args.lines.now))
    (is_spent c.args.budget c.args.assumptions.now (last_solve (undeleted c.args.lines.now))) c.is_spent.result
    c.in_ok-is_unfinished.ensures c.if-not-branch.false c.is_spent.ensures
