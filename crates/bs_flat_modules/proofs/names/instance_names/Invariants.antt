use Rattle.std.proofs.Common.{◌≡◌, map, take}
use Rattle.bs_flat_modules.proofs.names.instance_names.Given as goal

abbrev pub invariant-written : goal.invariant-written
invariant-written l = l.names ≡ map (λ w. w.name) (take l.w-index l.written)
