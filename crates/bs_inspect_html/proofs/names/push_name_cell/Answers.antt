use Rattle.bs_inspect_view.specs.Signals.{signal_in}
use Rattle.bs_inspect_html.proofs.BitLemmas.{name_put}
use Rattle.bs_inspect_html.proofs.names.push_name_cell.Goals as goal

pub returns : goal.returns
returns c =
    name_put c.args.signed.now (signal_in c.args.signal.now) c.slice.result.now c.is_signed-marked.result c.args.text.now.items
    c.push_name_front.new.text.items c.push_shown_name.new.text.items c.push_name_end.new.text.items c.slice.ensures c.is_signed-marked.ensures
    c.in_ok-push_name_front.ensures c.in_ok-push_shown_name.ensures c.in_ok-push_name_end.ensures
