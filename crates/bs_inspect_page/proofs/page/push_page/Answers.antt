use Rattle.std.proofs.Common.{map}
use Rattle.bs_inspect_view.specs.Signals.{signal_in}
use Rattle.bs_inspect_html.specs.Figures.{figure_in}
use Rattle.bs_inspect_page.specs.Page.{asked_in}
use Rattle.bs_inspect_page.proofs.PageLemmas.{page_put}
use Rattle.bs_inspect_page.proofs.page.push_page.Goals as goal

pub returns : goal.returns
returns c =
    page_put (asked_in c.args.asked.now) c.args.net.now.raw c.args.report.now (figure_in c.args.figure) c.args.last.now (map signal_in c.args.flops.now)
    (map signal_in c.args.inputs.now) c.args.text.now.items c.push_front.new.text.items c.push_steps.new.text.items
    c.push_piece.new.text.items c.push_trace.new.text.items c.in_ok-push_front.ensures c.in_ok-push_steps.ensures c.in_ok-push_piece.ensures.ok
    c.in_ok-push_trace.ensures
