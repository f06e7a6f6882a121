use Rattle.std.proofs.Common.{◌≡◌, take}
use Rattle.bs_flat_modules.specs.Names as spec
use Rattle.bs_flat_modules.proofs.ids.ids_at.Given as goal

abbrev pub invariant-modules : goal.invariant-modules
invariant-modules l = l.ids ≡ spec.ids_at l.ts (take l.place-index l.modules)
