use Rattle.bs_inspect_html.proofs.PieceLemmas.{on_ok}
use Rattle.bs_inspect_page.proofs.LastLemmas.{front_put}
use Rattle.bs_inspect_page.proofs.last_list.push_list_front.Goals as goal

pub returns : goal.returns
returns c =
    on_ok c.push_between.result
    (front_put c.args.step.now c.hidden_count.result c.args.text.now.items c.push_piece.new.text.items c.push_count.new.text.items
    c.push_between.new.text.items c.hidden_count.ensures c.in_ok-push_piece.ensures.ok c.in_ok-push_count.ensures) c.push_between.ensures
