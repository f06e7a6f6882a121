use Rattle.std.proofs.Common.{sym, ◌∙◌}
use Rattle.bs_scan.proofs.WordLemmas.{any_item}
use Rattle.bs_scan.proofs.words.is_item.Goals as goal

pub returns-then-any : goal.returns-then-any
returns-then-any c =
    any_item c.args.word.now c.args.names.now c.is_same-any.result (sym c.are_names-named.ensures ∙ c.if-named.true)
    (sym c.is_same-any.ensures ∙ c.if-any.true) c.if-any.true
