use Rattle.std.proofs.Common.{map}
use Rattle.bs_verilog_scope.specs.Checking.{marked}
use Rattle.bs_flat_meaning.specs.Reading.{as_verilog}
use Rattle.bs_flat_modules.specs.Names.{begin}
use Rattle.bs_flat_modules.specs.Owns as spec
use Rattle.bs_flat_modules.proofs.WithinLemmas.{IsWithin}
use Rattle.bs_flat_modules.proofs.owns.read_owns.Given as goal

abbrev pub invariant-modules : goal.invariant-modules
invariant-modules l =
    IsWithin (begin l.ts) (λ p. as_verilog (spec.said l.table (spec.own_text (marked l.marks) l.others l.ts p))) (map spec.module_and_parts l.owns) l.room
    l.place-index l.modules
