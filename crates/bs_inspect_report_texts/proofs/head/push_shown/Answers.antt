use Rattle.bs_inspect_report_texts.proofs.TextLemmas.{shown_is}
use Rattle.bs_inspect_report_texts.proofs.head.push_shown.Goals as goal

pub returns : goal.returns
returns c =
    shown_is c.args.count c.args.text.now.items c.push_piece.new.text.items c.push_number.new.text.items c.push_line.new.text.items
    c.in_ok-push_piece.ensures.ok c.in_ok-push_number.ensures.ok c.in_ok-push_line.ensures.ok
