use Rattle.bs_inspect_html.proofs.PieceLemmas.{on_ok}
use Rattle.bs_inspect_page.proofs.PieceLemmas.{end_put}
use Rattle.bs_inspect_page.proofs.step_table.push_ending.Goals as goal

pub returns : goal.returns
returns c =
    on_ok c.push_between.result
    (end_put c.args.lemmas c.args.step.now c.args.text.now.items c.push_piece.new.text.items c.push_end.new.text.items
    c.push_piece-2.new.text.items c.push_moment.new.text.items c.push_between.new.text.items c.in_ok-push_piece.ensures.ok
    c.in_ok-push_end.ensures c.in_ok-push_piece-2.ensures.ok c.in_ok-push_moment.ensures) c.push_between.ensures
