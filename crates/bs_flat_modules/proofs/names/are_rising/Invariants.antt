use Rattle.std.proofs.Common.{◌≡◌, map, drop}
use Rattle.bs_flat_modules.specs.Names as spec
use Rattle.bs_flat_modules.proofs.names.are_rising.Given as goal

abbrev pub invariant-modules : goal.invariant-modules
invariant-modules l = spec.rises l.least (map (spec.begin l.ts) (drop l.place-index l.modules)) ≡ spec.rises 0 (map (spec.begin l.ts) l.modules)
