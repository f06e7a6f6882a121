use Rattle.bs_verilog_scope.specs.Checking.{marked}
use Rattle.bs_flat_modules.specs.Owns as spec
use Rattle.bs_flat_modules.proofs.ReadLemmas.{as_fault}
use Rattle.bs_flat_modules.proofs.owns.read_own.Goals as goal

pub returns-in-Err : goal.returns-in-Err
returns-in-Err c =
    rw c.fault_of.ensures (as_fault (spec.said c.args.table.now (spec.own_text (marked c.args.marks.now) c.args.others.now c.args.ts.now c.args.place))
    c.in-Err.fault c.in-Err.ensures)
