use Rattle.bs_flat_modules.proofs.LexemeCounts.{texts_have_few_lexemes}
use Rattle.bs_flat_modules.proofs.law.texts_have_few_lexemes.Goals as goal

pub returns : goal.returns
returns c = texts_have_few_lexemes
