use Rattle.bs_audit.proofs.Lines.{split_slices, split_all}
use Rattle.bs_audit.proofs.step_lines.split_step.Goals as goal

pub returns-then-is_retire : goal.returns-then-is_retire
returns-then-is_retire c =
    split_slices c.args.lines.now c.lines.i c.index-lines-i.result c.is_retire.result c.lines-test.true c.index-lines-i.is c.lines.invariant
    c.is_retire.ensures c.if-is_retire.true

pub returns : goal.returns
returns c = split_all c.args.lines.now c.lines.i c.lines-test.false c.lines.invariant
