use Rattle.std.proofs.Common.{◌≡◌, take}
use Rattle.bs_flat_meaning.specs.Gates.{nets_of}
use Rattle.bs_flat_meaning.proofs.children_first.nets_of.Given as goal

abbrev pub invariant-modules : goal.invariant-modules
invariant-modules l = l.nets ≡ nets_of (take l.module-index l.modules)
