use Rattle.bs_inspect_usages.proofs.TwiceLemmas.{again_is}
use Rattle.bs_inspect_usages.proofs.twice.again_word.Goals as goal

pub returns : goal.returns
returns c =
    again_is c.args.number c.args.word.now _ _ _ c.option_name-name.ensures c.again_words-says.ensures c.in_ok-said.ensures
