use Rattle.bs_verilog_scope.specs.Checking.{marked}
use Rattle.bs_verilog_scope.proofs.DeclaringLemmas.{declared_is}
use Rattle.bs_verilog_scope.proofs.declaring.declare.Goals as goal

pub returns : goal.returns
returns c =
    declared_is c.declared_with-declarations.result c.args.table.now c.args.top.now c.slice-header.result.now c.slice-declared.result.now
    (marked c.in_ok-marks.marks) c.slice-header.ensures c.slice-declared.ensures c.in_ok-marks.ensures.1 c.in_ok-marks.ensures.0
    c.declared_with-declarations.ensures
