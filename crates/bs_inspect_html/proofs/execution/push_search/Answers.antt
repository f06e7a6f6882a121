use Rattle.bs_inspect_html.proofs.PieceLemmas.{on_ok, part_put}
use Rattle.bs_inspect_html.proofs.execution.push_search.Goals as goal

pub returns : goal.returns
returns c =
    on_ok c.push_piece.result
    (part_put c.args.budgets c.args.netlist.now c.args.answer.now c.args.text.now.items c.push_search_words.new.text.items
    c.push_evidence.new.text.items c.push_evidence-2.new.text.items c.push_piece.new.text.items c.in_ok-push_search_words.ensures
    c.in_ok-push_evidence.ensures c.in_ok-push_evidence-2.ensures) c.push_piece.ensures.ok
