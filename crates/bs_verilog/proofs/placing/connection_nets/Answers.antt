use Rattle.std.proofs.lemmas.Result.{err_from_is_err_and}
use Rattle.bs_verilog_scope.specs.Checking.{looked}
use Rattle.bs_verilog.specs.Building.{with_connection}
use Rattle.bs_verilog.proofs.PlaceLemmas.{each_on_item, each_fault_item, each_end}
use Rattle.bs_verilog.proofs.placing.connection_nets.Goals as goal

pub returns-in_err-place : goal.returns-in_err-place
returns-in_err-place c =
    let p = err_from_is_err_and c.from_residual.result c.from_residual.ensures.1 in
    rw (p.1, p.2) (each_fault_item (with_connection c.args.table.now (looked c.args.scope.now)) _ _ c.args.cs.now c.connections.c-index
    c.c-item.result _ c.connections-test.true c.c-item.is c.in_err-place.ensures c.connections.invariant)

pub connections-preserved : goal.connections-preserved
connections-preserved c =
    each_on_item (with_connection c.args.table.now (looked c.args.scope.now)) _ _ c.args.cs.now c.connections.c-index c.c-item.result _
    c.connections-test.true c.c-item.is c.in_ok-place.ensures c.connections.invariant

pub returns : goal.returns
returns c = each_end (with_connection c.args.table.now (looked c.args.scope.now)) _ c.args.cs.now c.connections.c-index _ c.connections-test.false
    c.connections.invariant
