use Rattle.bs_flat_modules.proofs.CountedModules.{modules_are_counted}
use Rattle.bs_flat_modules.proofs.law.modules_are_counted.Goals as goal

pub returns : goal.returns
returns c = modules_are_counted
