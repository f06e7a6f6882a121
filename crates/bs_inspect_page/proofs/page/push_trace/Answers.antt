use Rattle.std.proofs.Common.{map}
use Rattle.std.specs.Option.{option_map}
use Rattle.bs_inspect_view.specs.Signals.{signal_in}
use Rattle.bs_inspect_html.specs.Figures.{figure_in}
use Rattle.bs_inspect_html.specs.Signed.{file_in}
use Rattle.bs_inspect_page.proofs.PageLemmas.{trace_put}
use Rattle.bs_inspect_page.proofs.page.push_trace.Goals as goal

pub returns : goal.returns
returns c =
    trace_put c.args.report.now (option_map file_in c.args.signature) (figure_in c.args.figure) (map signal_in c.args.flops.now)
    (map signal_in c.args.inputs.now) c.args.text.now.items
    c.push_trace_front.new.text.items c.push_inputs.new.text.items c.push_group.new.text.items c.push_end.new.text.items
    c.in_ok-push_trace_front.ensures c.in_ok-push_inputs.ensures c.in_ok-push_group.ensures c.in_ok-push_end.ensures
