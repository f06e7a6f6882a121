use Rattle.bs_flat_modules.proofs.BuiltNames.{parts_are_counted}
use Rattle.bs_flat_modules.proofs.law.parts_are_counted.Goals as goal

pub returns : goal.returns
returns c = parts_are_counted
