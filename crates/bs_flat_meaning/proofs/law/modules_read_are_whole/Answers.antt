use Rattle.bs_flat_meaning.proofs.WholeLemmas.{read_modules_are_whole}
use Rattle.bs_flat_meaning.proofs.law.modules_read_are_whole.Goals as goal

pub returns : goal.returns
returns c = read_modules_are_whole
