use Rattle.std.proofs.Common.{map}
use Rattle.bs_inspect_view.specs.Signals.{signal_in}
use Rattle.bs_inspect_view.proofs.HeadLemmas.{head_whole}
use Rattle.bs_inspect_view.proofs.head.push_head.Goals as goal

pub returns : goal.returns
returns c =
    head_whole c.args.remarks.now (map signal_in c.args.signals.now) c.args.text.now.items c.push_line.new.text.items c.push_piece.new.text.items
    c.push_opening_lines.new.text.items c.push_variables.new.text.items c.push_line-2.new.text.items c.push_line-3.new.text.items
    c.in_ok-push_line.ensures.ok c.in_ok-push_piece.ensures.ok c.in_ok-push_opening_lines.ensures c.in_ok-push_variables.ensures
    c.in_ok-push_line-2.ensures.ok c.in_ok-push_line-3.ensures.ok
