use Rattle.std.proofs.Common.{map}
use Rattle.bs_inspect_view.specs.Signals.{signal_in}
use Rattle.bs_inspect_page.proofs.LastLemmas.{filled_put}
use Rattle.bs_inspect_page.proofs.last_list.push_filled.Goals as goal

pub returns : goal.returns
returns c =
    filled_put c.args.signed.now c.args.step.now c.shown_of-cands.result.now (map signal_in c.args.flops.now) c.args.text.now.items c.push_list_front.new.text.items
    c.push_columns.new.text.items c.push_piece.new.text.items c.push_rows.new.text.items c.push_piece-2.new.text.items
    c.shown_of-cands.ensures c.in_ok-push_list_front.ensures c.in_ok-push_columns.ensures c.in_ok-push_piece.ensures.ok c.in_ok-push_rows.ensures
    c.in_ok-push_piece-2.ensures.ok
