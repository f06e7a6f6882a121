use Rattle.bs_audit.proofs.Lines.{other_count, other_lines, only_lemmas}
use Rattle.bs_audit.proofs.list_end.are_spent.Goals as goal

pub returns-then-count_of-budget : goal.returns-then-count_of-budget
returns-then-count_of-budget c =
    other_count c.args.budget c.args.assumptions.now c.args.lines.now c.count_of.result c.count_of.ensures c.if-count_of-budget.true

pub returns-then-not-are_lemmas : goal.returns-then-not-are_lemmas
returns-then-not-are_lemmas c =
    other_lines c.args.budget c.args.assumptions.now c.args.lines.now c.are_lemmas.result c.are_lemmas.ensures c.if-not-are_lemmas.true

pub returns : goal.returns
returns c =
    only_lemmas c.args.budget c.args.assumptions.now c.args.lines.now c.count_of.result c.are_lemmas.result c.some_ends.result c.count_of.ensures
    c.if-count_of-budget.false c.are_lemmas.ensures
    c.if-not-are_lemmas.false (rw c.in_ok-assumed.ensures at c.some_ends.ensures)
