use Rattle.std.specs.Option.{option_map}
use Rattle.bs_inspect_html.specs.Signed.{file_in}
use Rattle.bs_inspect_html.proofs.PieceLemmas.{head_put}
use Rattle.bs_inspect_html.proofs.front.push_head.Goals as goal

pub returns : goal.returns
returns c =
    head_put c.args.report.now (option_map file_in c.args.signature) c.args.text.now.items
    c.push_piece.new.text.items c.push_title.new.text.items c.push_piece-2.new.text.items c.push_styles.new.text.items c.push_piece-3.new.text.items
    c.in_ok-push_piece.ensures.ok c.in_ok-push_title.ensures c.in_ok-push_piece-2.ensures.ok c.in_ok-push_styles.ensures c.in_ok-push_piece-3.ensures.ok
