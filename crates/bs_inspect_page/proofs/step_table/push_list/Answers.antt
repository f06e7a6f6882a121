use Rattle.bs_inspect_html.proofs.PieceLemmas.{on_ok}
use Rattle.bs_inspect_page.proofs.PieceLemmas.{list_put}
use Rattle.bs_inspect_page.proofs.step_table.push_list.Goals as goal

pub returns : goal.returns
returns c =
    on_ok c.push_number.result
    (list_put c.args.step.now c.len.result c.differing.result c.args.text.now.items c.push_between.new.text.items c.push_number.new.text.items
    c.len.ensures (rw c.slice.ensures at c.differing.ensures) c.in_ok-push_between.ensures) c.push_number.ensures.ok
