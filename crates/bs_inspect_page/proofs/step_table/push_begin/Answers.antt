use Rattle.std.proofs.Common.{refl}
use Rattle.bs_inspect_html.proofs.PieceLemmas.{on_ok}
use Rattle.bs_inspect_page.proofs.PieceLemmas.{begin_put}
use Rattle.bs_inspect_page.proofs.step_table.push_begin.Goals as goal

pub returns : goal.returns
returns c =
    on_ok c.push_from.result
    (begin_put c.args.report.now c.args.i _ c.args.text.now.items c.push_between.new.text.items c.push_from.new.text.items refl
    c.in_ok-push_between.ensures) c.push_from.ensures
