use Rattle.std.proofs.Common.{ap, ◌∙◌}
use Rattle.bs_inspect_usages.specs.Usages.{bad_word_text}
use Rattle.bs_inspect_usages.proofs.reason.bad_sentence.Goals as goal

pub returns : goal.returns
returns c = c.in_ok-said.ensures ∙ ap (bad_word_text c.args.command.now c.args.number) c.word_or-word.ensures
