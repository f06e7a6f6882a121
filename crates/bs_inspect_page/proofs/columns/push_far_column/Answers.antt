use Rattle.bs_inspect_page.proofs.PieceLemmas.{far_put}
use Rattle.bs_inspect_page.proofs.columns.push_far_column.Goals as goal

pub returns : goal.returns
returns c =
    far_put c.args.report.now c.args.i c.distance.result _ c.args.text.now.items
    c.push_piece.new.text.items c.push_number.new.text.items c.push_origin.new.text.items
    c.distance.ensures c.step_of.ensures
    c.in_ok-push_piece.ensures.ok c.in_ok-push_number.ensures.ok c.in_ok-push_origin.ensures
