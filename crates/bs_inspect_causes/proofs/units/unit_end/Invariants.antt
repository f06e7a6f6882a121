use Rattle.std.specs.List.{AllWithin}
use Rattle.bs_inspect_causes.specs.Layers.{IsLike}
use Rattle.bs_inspect_causes.proofs.units.unit_end.Given as goal

abbrev pub invariant-facts : goal.invariant-facts
invariant-facts l = AllWithin (IsLike l.basis.drivers.now l.first.cycle l.flop) l.facts l.from l.i
