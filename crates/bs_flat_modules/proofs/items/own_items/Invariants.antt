use Rattle.std.proofs.Common.{◌-◌, ◌++◌, length}
use Rattle.bs_verilog_scope.specs.Checking.{marked}
use Rattle.bs_flat_modules.specs.Items as spec
use Rattle.bs_flat_modules.proofs.ItemLemmas.{IsOwning}
use Rattle.bs_flat_modules.proofs.items.own_items.Given as goal

abbrev pub invariant-items : goal.invariant-items
invariant-items l =
    IsOwning (marked l.marks) l.own (l.bound - l.counter) l.at l.ts (l.initial.own ++ spec.own_items (marked l.marks) (length l.ts) l.ts)
