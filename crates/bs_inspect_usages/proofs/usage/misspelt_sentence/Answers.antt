use Rattle.std.proofs.Common.{◌∙◌, codes}
use Rattle.bs_inspect_usages.specs.Usages.{options, word_text}
use Rattle.bs_inspect_usages.proofs.usage.misspelt_sentence.Goals as goal

pub returns : goal.returns
returns c =
    c.in_ok-said.ensures ∙ (λ i. word_text c.args.number c.args.word.now (c.option_name.ensures i) (codes "option") options)
