use Rattle.std.proofs.lemmas.Result.{err_from_is_err_and}
use Rattle.bs_verilog_scope.specs.Checking.{looked}
use Rattle.bs_verilog.specs.Building.{with_part}
use Rattle.bs_verilog.proofs.PlaceLemmas.{each_on_item, each_fault_item, each_end}
use Rattle.bs_verilog.proofs.building.with_parts.Goals as goal

pub returns-in_err-with_part : goal.returns-in_err-with_part
returns-in_err-with_part c =
    let p = err_from_is_err_and c.from_residual.result c.from_residual.ensures.1 in
    rw (p.1, p.2) (each_fault_item (with_part c.args.table.now (looked c.args.scope.now)) c.parts.built _ c.args.parts.now c.parts.part-index
    c.part-item.result _ c.parts-test.true c.part-item.is c.in_err-with_part.ensures c.parts.invariant)

pub parts-preserved : goal.parts-preserved
parts-preserved c =
    each_on_item (with_part c.args.table.now (looked c.args.scope.now)) c.parts.built _ c.args.parts.now c.parts.part-index c.part-item.result _
    c.parts-test.true c.part-item.is c.in_ok-with_part.ensures c.parts.invariant

pub returns : goal.returns
returns c = each_end (with_part c.args.table.now (looked c.args.scope.now)) c.parts.built c.args.parts.now c.parts.part-index _ c.parts-test.false
    c.parts.invariant
