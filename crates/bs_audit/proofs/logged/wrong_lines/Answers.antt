use Rattle.std.proofs.Common.{◌∙◌, sym, true, false}
use Rattle.bs_audit.proofs.LogLemmas.{blocks_fail, end_is}
use Rattle.bs_audit.proofs.logged.wrong_lines.Goals as goal

pub returns-then-not-branch : goal.returns-then-not-branch
returns-then-not-branch c =
    rw c.number.ensures
    (blocks_fail c.args.encoding.now c.args.assumptions.now c.args.budgets.now.conflicts c.args.i c.args.step.now c.args.lines.now
    c.activation_of-activation.result c.in_ok-are_right_blocks.field-0 c.activation_of-activation.ensures
    (rw c.slice.ensures at c.in_ok-are_right_blocks.ensures) c.if-not-branch.true)

pub returns-then-not-branch-2 : goal.returns-then-not-branch-2
returns-then-not-branch-2 c =
    rw c.number-then-not-branch-2.ensures
    (end_is c.args.encoding.now c.args.assumptions.now c.args.budgets.now.conflicts c.args.i c.args.step.now c.args.lines.now c.activation_of-activation.result
    c.in_ok-are_right_blocks.field-0 false c.activation_of-activation.ensures
    (rw c.slice.ensures at c.in_ok-are_right_blocks.ensures) c.if-not-branch.false (sym c.if-not-branch-2.true ∙ c.in_ok-is_right_end.ensures))

pub returns : goal.returns
returns c =
    end_is c.args.encoding.now c.args.assumptions.now c.args.budgets.now.conflicts c.args.i c.args.step.now c.args.lines.now c.activation_of-activation.result
    c.in_ok-are_right_blocks.field-0 true c.activation_of-activation.ensures
    (rw c.slice.ensures at c.in_ok-are_right_blocks.ensures) c.if-not-branch.false (sym c.if-not-branch-2.false ∙ c.in_ok-is_right_end.ensures)
