use Rattle.std.proofs.Common.{◌≡◌, map}
use Rattle.std.specs.List.{range_with_len}
use Rattle.bs_flat_meaning.specs.Gates.{gate_for}
use Rattle.bs_flat_meaning.proofs.children_first.gates_of.Given as goal

abbrev pub invariant-modules : goal.invariant-modules
invariant-modules l = l.gates ≡ map (gate_for l.below) (range_with_len 0 l.module)
