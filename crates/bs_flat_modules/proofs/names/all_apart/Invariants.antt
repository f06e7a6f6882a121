use Rattle.std.proofs.Common.{◌≡◌, drop}
use Rattle.bs_flat_modules.specs.Names as spec
use Rattle.bs_flat_modules.proofs.names.all_apart.Given as goal

abbrev pub invariant-modules : goal.invariant-modules
invariant-modules l = spec.all_apart (drop l.w-index l.written) ≡ spec.all_apart l.written
