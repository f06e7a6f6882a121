use Rattle.bs_scan.proofs.WordLemmas.{short_behind}
use Rattle.bs_scan.proofs.words.item_names.Goals as goal

pub returns-then-is_item-clause-short : goal.returns-then-is_item-clause-short
returns-then-is_item-clause-short c =
    short_behind c.args.line.now c.in-Some.names.now c.split_word.result.0.now (rw c.in-Some.is at c.split_word.ensures)
