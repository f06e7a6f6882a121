use Rattle.std.proofs.Common.{◌∙◌, ◌+◌, sym, ap, inr, length}
use Rattle.std.proofs.lemmas.Result.{err_from_is_err_and}
use Rattle.bs_verilog_syntax.specs.Modules.{is_end}
use Rattle.bs_verilog_syntax.proofs.CellLemmas.{cells_end, cells_fault, cells_on, cells_bound}
use Rattle.bs_verilog_syntax.proofs.modules.cells.Goals as goal

pub returns-then-is_end : goal.returns-then-is_end
returns-then-is_end c =
    record {
      skips = cells_end (length c.args.ts.now + 1) c.cells.counter c.cells.rest.now _ c.cells-test.true (ap is_end (sym c.sort_of.ensures)
          ∙ sym c.if-is_end.ensures) c.cells.invariant;
    }

pub returns-in_err-rest : goal.returns-in_err-rest
returns-in_err-rest c =
    let p = err_from_is_err_and c.from_residual.result c.from_residual.ensures.1 in
    record {
      skips = rw (p.1, p.2) (cells_fault (length c.args.ts.now + 1) c.cells.counter c.cells.rest.now _ _ c.cells-test.true (ap is_end (sym c.sort_of.ensures)
          ∙ sym c.if-is_end.ensures) c.in_err-rest.ensures.skips c.cells.invariant);
    }

pub cells-preserved : goal.cells-preserved
cells-preserved c =
    cells_on (length c.args.ts.now + 1) c.cells.counter c.cells.rest.now c.in_ok-rest.rest.now _ c.cells-test.true (ap is_end (sym c.sort_of.ensures)
    ∙ sym c.if-is_end.ensures) c.in_ok-rest.ensures.skips c.cells.invariant

pub returns : goal.returns
returns c = record {
  skips = inr (rw c.refused.ensures.fault (cells_bound
      (length c.args.ts.now + 1) c.cells.counter c.cells.rest.now _ c.cells-test.false c.cells.invariant));
}
