use Rattle.std.proofs.Common.{ap, ◌∙◌}
use Rattle.bs_inspect_usages.specs.Usages.{again_text}
use Rattle.bs_inspect_usages.proofs.twice.again_sentence.Goals as goal

pub returns : goal.returns
returns c = c.in_ok-said.ensures ∙ ap (again_text c.args.number) c.word_or-word.ensures
