use Rattle.std.proofs.Common.{◌∙◌, ◌+◌, sym, ap, inr, length}
use Rattle.std.proofs.lemmas.Result.{err_from_is_err_and}
use Rattle.bs_verilog_syntax.specs.Modules.{is_cell}
use Rattle.bs_verilog_syntax.proofs.CellLemmas.{leading_end, leading_begun, leading_skipped, leading_on, leading_bound}
use Rattle.bs_verilog_syntax.proofs.modules.leading.Goals as goal

pub returns-in_err-inside : goal.returns-in_err-inside
returns-in_err-inside c =
    let p = err_from_is_err_and c.from_residual.result c.from_residual.ensures.1 in
    record {
      skips = rw (p.1, p.2) (leading_begun (length c.args.ts.now + 1) c.cells.counter c.cells.rest.now _ _ c.cells-test.true
          c.in_err-inside.ensures.skips c.cells.invariant);
    }

pub returns-then-not-is_cell : goal.returns-then-not-is_cell
returns-then-not-is_cell c =
    record {
      skips = leading_end (length c.args.ts.now + 1) c.cells.counter c.cells.rest.now c.in_ok-inside.inside.now _ c.cells-test.true
          c.in_ok-inside.ensures.skips (ap is_cell (sym c.sort_of.ensures) ∙ sym c.if-not-is_cell.ensures) c.cells.invariant;
    }

pub returns-in_err-rest : goal.returns-in_err-rest
returns-in_err-rest c =
    let p = err_from_is_err_and c.from_residual-in_err-rest.result c.from_residual-in_err-rest.ensures.1 in
    record {
      skips = rw (p.1, p.2) (leading_skipped (length c.args.ts.now + 1) c.cells.counter c.cells.rest.now c.in_ok-inside.inside.now _ _ c.cells-test.true
          c.in_ok-inside.ensures.skips (ap is_cell (sym c.sort_of.ensures) ∙ sym c.if-not-is_cell.ensures) c.in_err-rest.ensures.skips c.cells.invariant);
    }

pub cells-preserved : goal.cells-preserved
cells-preserved c =
    leading_on (length c.args.ts.now + 1) c.cells.counter c.cells.rest.now c.in_ok-inside.inside.now c.in_ok-rest.rest.now _ c.cells-test.true
    c.in_ok-inside.ensures.skips (ap is_cell (sym c.sort_of.ensures) ∙ sym c.if-not-is_cell.ensures) c.in_ok-rest.ensures.skips c.cells.invariant

pub returns : goal.returns
returns c = record {
  skips = inr (rw c.refused.ensures.fault (leading_bound
      (length c.args.ts.now + 1) c.cells.counter c.cells.rest.now _ c.cells-test.false c.cells.invariant));
}
