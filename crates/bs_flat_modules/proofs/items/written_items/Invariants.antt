use Rattle.std.proofs.Common.{◌-◌, [], length}
use Rattle.bs_verilog_scope.specs.Checking.{marked}
use Rattle.bs_flat_modules.specs.Items as spec
use Rattle.bs_flat_modules.proofs.ItemLemmas.{IsWriting}
use Rattle.bs_flat_modules.proofs.items.written_items.Given as goal

abbrev pub invariant-items : goal.invariant-items
invariant-items l =
    IsWriting (marked l.marks) l.all (l.bound - l.counter) l.at l.ts (spec.written_items (marked l.marks) (length l.ts) [] l.ts)
