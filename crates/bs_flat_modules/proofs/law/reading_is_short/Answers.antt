use Rattle.bs_flat_modules.proofs.ShortModules.{reading_is_short}
use Rattle.bs_flat_modules.proofs.law.reading_is_short.Goals as goal

pub returns : goal.returns
returns c = reading_is_short
