use Rattle.std.specs.Prelude.{codes, decimal}
use Rattle.bs_inspect_check.specs.Text.{counts_text, outcome_text}
use Rattle.bs_inspect_check.proofs.TextLemmas.{line_of_four}
use Rattle.bs_inspect_check.proofs.text.push_outcome_line.Goals as goal

pub returns : goal.returns
returns c =
    line_of_four c.end_line.result c.args.text.now.items (codes "run ") (decimal c.args.number)
    (outcome_text c.args.comparison.now.flops.agreed c.args.comparison.now.flops.differing) (counts_text c.args.comparison.now)
    c.push_piece.new.text.items c.push_number.new.text.items c.push_outcome.new.text.items c.push_counts.new.text.items c.end_line.new.text.items
    c.in_ok-push_piece.ensures.ok c.in_ok-push_number.ensures.ok (rw c.slice.ensures at c.in_ok-push_outcome.ensures) c.in_ok-push_counts.ensures
    c.end_line.ensures.ok
