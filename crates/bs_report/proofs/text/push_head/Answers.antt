use Rattle.std.proofs.Common.{◌++◌}
use Rattle.std.specs.Prelude.{codes}
use Rattle.bs_bits.specs.Lines.{line}
use Rattle.bs_report.specs.Text.{head_text, budgets_text, steps_text, stop_word, title}
use Rattle.bs_report.proofs.TextLemmas.{four_ok}
use Rattle.bs_report.proofs.text.push_head.Goals as goal

pub returns : goal.returns
unfolding head_text
returns c =
    four_ok c.push_stop.result c.args.text.now.items c.push_title.new.text.items c.push_budgets.new.text.items c.push_steps.new.text.items
    c.push_stop.new.text.items
    (line (title c.args.report.now.depth)) (budgets_text c.args.report.now.budgets) (steps_text c.args.report.now.depth 1 c.args.report.now.steps)
    (line (codes "stop " ++ stop_word c.args.report.now.stop))
    c.in_ok-push_title.ensures c.in_ok-push_budgets.ensures
    (rw (← c.slice.ensures) c.in_ok-push_steps.ensures)
    c.push_stop.ensures
