use Rattle.std.specs.Prelude.{codes}
use Rattle.bs_bits.specs.Lines.{line}
use Rattle.bs_reach.specs.Text.{head_text, asked_text, outcome_text}
use Rattle.bs_reach.proofs.TextLemmas.{three_ok}
use Rattle.bs_reach.proofs.text.push_head.Goals as goal

pub returns : goal.returns
unfolding head_text
returns c =
    three_ok c.push_outcome.result c.args.text.now.items c.push_line.new.text.items c.push_asked.new.text.items c.push_outcome.new.text.items
    (line (codes "reach 1")) (asked_text c.args.reach.now.asked c.args.reach.now.conflicts) (outcome_text c.args.reach.now.outcome)
    c.in_ok-push_line.ensures.ok c.in_ok-push_asked.ensures c.push_outcome.ensures
