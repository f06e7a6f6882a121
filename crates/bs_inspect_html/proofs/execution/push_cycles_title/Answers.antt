use Rattle.bs_inspect_html.proofs.PieceLemmas.{cycles_put, on_ok}
use Rattle.bs_inspect_html.proofs.execution.push_cycles_title.Goals as goal

pub returns : goal.returns
returns c =
    on_ok c.push_number.result
    (cycles_put c.args.report.now c.len.result c.args.text.now.items c.push_piece.new.text.items c.push_number.new.text.items
    c.len.ensures c.in_ok-push_piece.ensures.ok) c.push_number.ensures.ok
