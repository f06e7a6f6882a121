use Rattle.bs_inspect_html.proofs.PieceLemmas.{chip_put, on_ok}
use Rattle.bs_inspect_html.proofs.front.push_chip.Goals as goal

pub returns : goal.returns
returns c =
    on_ok c.push_before.result
    (chip_put c.args.net.now.raw c.flop_count.result c.input_count.result c.args.text.now.items c.push_between.new.text.items
    c.push_before.new.text.items c.flop_count.ensures c.input_count.ensures c.in_ok-push_between.ensures) c.push_before.ensures
