use Rattle.bs_flat_modules.proofs.LexemeNumbers.{lexemes_are_copied}
use Rattle.bs_flat_modules.proofs.law.lexemes_are_copied.Goals as goal

pub returns : goal.returns
returns c = lexemes_are_copied
