use Rattle.std.proofs.Common.{sym, ap, ◌∙◌}
use Rattle.bs_net_names.specs.Splits.{halves_in}
use Rattle.bs_inspect_view.proofs.ScopeLemmas.{word_last}
use Rattle.bs_inspect_view.proofs.save.push_scope_words.Goals as goal

pub returns : goal.returns
returns c =
    word_last c.args.path.now c.parts.rest.now c.args.text.now.items c.parts.text.items c.push_scope_word-2.new.text.items c.parts.invariant
    (sym (ap halves_in c.in_default.is) ∙ c.first_split.ensures) c.in_ok-push_scope_word-2.ensures
