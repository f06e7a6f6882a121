use Rattle.std.proofs.Common.{map}
use Rattle.bs_verilog_scope.specs.Checking.{marked}
use Rattle.bs_flat_modules.specs.Owns.{all_written, module_and_parts}
use Rattle.bs_flat_modules.proofs.ReadLemmas.{written_fault}
use Rattle.bs_flat_modules.proofs.reading.with_written.Goals as goal

pub returns-in-Err : goal.returns-in-Err
returns-in-Err c =
    rw c.fault_of.ensures (written_fault (map module_and_parts c.args.owns) (all_written (marked c.args.marks.now) c.args.ts.now c.args.modules.now)
    c.in-Err.fault c.in-Err.ensures)
