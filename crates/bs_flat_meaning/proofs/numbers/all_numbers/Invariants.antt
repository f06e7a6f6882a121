use Rattle.std.proofs.Common.{◌≡◌, map, take, Some}
use Rattle.bs_flat_meaning.specs.ModuleNumbers.{looked_up}
use Rattle.bs_flat_meaning.proofs.numbers.all_numbers.Given as goal

abbrev pub invariant-modules : goal.invariant-modules
invariant-modules l = map (map Some) l.all ≡ map (map (looked_up l.table)) (take l.one-index l.written)
