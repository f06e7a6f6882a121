use Rattle.bs_audit.proofs.Lines.{finishes_more}
use Rattle.bs_audit.proofs.list_end.finishes_of.Goals as goal

pub lines-preserved : goal.lines-preserved
lines-preserved c =
    finishes_more c.args.lines.now c.lines.line-index c.line-item.result c.lines.ids c.push_finish.new.ids c.lines-test.true c.line-item.is
    c.lines.invariant c.in_ok-push_finish.ensures
