use Rattle.bs_inspect_html.proofs.PieceLemmas.{budgets_put, on_ok}
use Rattle.bs_inspect_html.proofs.front.push_budgets.Goals as goal

pub returns : goal.returns
returns c =
    on_ok c.push_before-2.result
    (budgets_put c.args.budgets c.args.text.now.items c.push_between.new.text.items c.push_before.new.text.items c.push_before-2.new.text.items
    c.in_ok-push_between.ensures c.in_ok-push_before.ensures) c.push_before-2.ensures
