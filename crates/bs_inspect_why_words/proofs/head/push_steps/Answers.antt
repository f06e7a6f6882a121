use Rattle.std.proofs.Common.{◌-◌, map}
use Rattle.std.specs.Prelude.{codes, decimal}
use Rattle.bs_inspect_view.specs.Signals.{signal_in}
use Rattle.bs_inspect_why_words.specs.Heads.{at_words, values_words}
use Rattle.bs_inspect_why_words.proofs.HeadLemmas.{steps_told}
use Rattle.bs_inspect_why_words.proofs.head.push_steps.Goals as goal

pub returns : goal.returns
returns c =
    steps_told c.args.text.now.items (codes ", in ") (decimal c.args.change.now.steps) (codes " steps from")
    (values_words c.args.change.now.befores.now (map signal_in c.args.change.now.signals.now)) (at_words (c.args.change.now.since - 1)) c.push_piece.new.text.items
    c.push_number.new.text.items c.push_piece-2.new.text.items c.push_values.new.text.items c.push_at.new.text.items c.in_ok-push_piece.ensures.ok
    c.in_ok-push_number.ensures.ok c.in_ok-push_piece-2.ensures.ok c.in_ok-push_values.ensures c.in_ok-push_at.ensures
