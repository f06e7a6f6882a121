use Rattle.std.specs.Prelude.{codes, map}
use Rattle.bs_inspect_view.specs.Signals.{signal_in}
use Rattle.bs_inspect_check.specs.Text.{difference_text, like_text, word_line}
use Rattle.bs_inspect_check.proofs.TextLemmas.{three_on}
use Rattle.bs_inspect_check.proofs.text.push_other.Goals as goal

pub returns : goal.returns
returns c =
    three_on c.push_like.result c.args.text.now.items (word_line c.args.number (codes " inputs differ ") c.args.end.now.cycle)
    (difference_text (map signal_in c.args.inputs.now) c.args.end.now) (like_text c.args.number c.args.like) c.push_word_line.new.text.items
    c.push_differences.new.text.items c.push_like.new.text.items c.in_ok-push_word_line.ensures c.in_ok-push_differences.ensures c.push_like.ensures
