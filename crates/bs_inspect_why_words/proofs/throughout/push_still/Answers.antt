use Rattle.bs_inspect_why_words.proofs.ReasonLemmas.{still_put}
use Rattle.bs_inspect_why_words.proofs.throughout.push_still.Goals as goal

pub returns : goal.returns
returns c =
    still_put c.args.reason.now c.slice.result.now c.from.result c.args.text.now.items c.push_piece.new.text.items c.push_piece-2.new.text.items c.push_piece-3.new.text.items
    c.push_number.new.text.items c.end_line.new.text.items
    c.slice.ensures c.from.ensures c.in_ok-push_piece.ensures.ok c.in_ok-push_piece-2.ensures.ok c.in_ok-push_piece-3.ensures.ok c.in_ok-push_number.ensures.ok c.in_ok-end_line.ensures.ok
