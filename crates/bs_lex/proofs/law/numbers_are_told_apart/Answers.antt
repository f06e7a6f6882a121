use Rattle.bs_lex.proofs.ApartLemmas.{tells_apart}
use Rattle.bs_lex.proofs.law.numbers_are_told_apart.Goals as goal

pub returns : goal.returns
returns c = tells_apart c.args.source.now c.args.tokens.now
