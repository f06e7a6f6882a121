use Rattle.bs_inspect_html.proofs.PieceLemmas.{on_ok, search_put}
use Rattle.bs_inspect_html.proofs.execution.push_search_words.Goals as goal

pub returns : goal.returns
returns c =
    on_ok c.push_between-2.result
    (search_put c.args.budgets c.args.netlist.now c.args.text.now.items c.push_between.new.text.items c.push_path.new.text.items
    c.push_between-2.new.text.items c.in_ok-push_between.ensures c.in_ok-push_path.ensures) c.push_between-2.ensures
