use Rattle.std.proofs.Common.{◌∙◌, sym, ap, length}
use Rattle.std.proofs.lemmas.Result.{err_from_is_err_and}
use Rattle.bs_verilog_scope.specs.Checking.{marked}
use Rattle.bs_verilog_syntax.specs.Modules.{is_endmodule}
use Rattle.bs_flat_modules.proofs.PieceLemmas.{tail_is}
use Rattle.bs_flat_modules.proofs.ItemLemmas.{written_on, written_fault, written_end, written_bound}
use Rattle.bs_flat_modules.proofs.items.written_items.Goals as goal

pub returns-then-is_endmodule : goal.returns-then-is_endmodule
returns-then-is_endmodule c =
    written_end (marked c.args.marks.now) c.items.all _ (length c.args.ts.now) c.items.counter c.items.at c.args.ts.now _
    (tail_is c.items.at c.args.ts.now) c.items-test.true
    (ap is_endmodule (sym c.sort_of.ensures) ∙ sym c.if-is_endmodule.ensures) c.items.invariant

pub returns-in_err-add_item : goal.returns-in_err-add_item
returns-in_err-add_item c =
    let p = err_from_is_err_and c.from_residual.result c.from_residual.ensures.1 in
    rw (p.1, p.2) (written_fault (marked c.args.marks.now) c.items.all _ (length c.args.ts.now) c.items.counter c.items.at c.item_size-size.result
    c.args.ts.now _ _ _ (tail_is c.items.at c.args.ts.now) c.items-test.true
    (ap is_endmodule (sym c.sort_of.ensures) ∙ sym c.if-is_endmodule.ensures) c.item_size-size.ensures c.part.ensures c.in_err-add_item.ensures
    c.items.invariant)

pub items-preserved : goal.items-preserved
items-preserved c =
    written_on (marked c.args.marks.now) c.items.all _ _ (length c.args.ts.now) c.items.counter c.items.at c.item_size-size.result c.args.ts.now _ _
    (tail_is c.items.at c.args.ts.now)
    c.items-test.true
    (ap is_endmodule (sym c.sort_of.ensures) ∙ sym c.if-is_endmodule.ensures) c.item_size-size.ensures c.part.ensures c.in_ok-add_item.ensures
    c.items.invariant

pub returns : goal.returns
returns c =
    written_bound (marked c.args.marks.now) c.items.all _ (length c.args.ts.now) c.items.counter c.items.at c.args.ts.now c.items-test.false c.items.invariant
