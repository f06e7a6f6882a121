use Rattle.std.specs.Prelude.{codes, decimal}
use Rattle.bs_inspect_check.proofs.TextLemmas.{line_of_four}
use Rattle.bs_inspect_check.proofs.text.push_word_line.Goals as goal

pub returns : goal.returns
returns c =
    line_of_four c.end_line.result c.args.text.now.items (codes "run ") (decimal c.args.number) c.args.words.now (decimal c.args.count)
    c.push_piece.new.text.items c.push_number.new.text.items c.push_piece-2.new.text.items c.push_number-2.new.text.items c.end_line.new.text.items
    c.in_ok-push_piece.ensures.ok c.in_ok-push_number.ensures.ok c.in_ok-push_piece-2.ensures.ok c.in_ok-push_number-2.ensures.ok c.end_line.ensures.ok
