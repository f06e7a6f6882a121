use Rattle.std.proofs.Common.{◌≡◌, map, take}
use Rattle.bs_flat_meaning.specs.Refusals.{name_of}
use Rattle.bs_flat_meaning.proofs.refusals.ring_names.Given as goal

abbrev pub invariant-modules : goal.invariant-modules
invariant-modules l = l.names ≡ map (name_of l.table l.ids) (take l.number-index l.modules)
