use Rattle.std.proofs.Common.{◌≡◌, map, take, Some}
use Rattle.bs_flat_meaning.specs.ModuleNumbers.{looked_up}
use Rattle.bs_flat_meaning.proofs.numbers.numbers.Given as goal

abbrev pub invariant-written : goal.invariant-written
invariant-written l = map Some l.all ≡ map (looked_up l.table) (take l.w-index l.written)
