use Rattle.std.proofs.Common.{◌∙◌, sym, ap, length}
use Rattle.bs_verilog_scope.specs.Checking.{marked}
use Rattle.bs_verilog_syntax.specs.Modules.{is_endmodule}
use Rattle.bs_flat_modules.proofs.PieceLemmas.{tail_is}
use Rattle.bs_flat_modules.proofs.ItemLemmas.{own_on, own_end, own_bound}
use Rattle.bs_flat_modules.proofs.items.own_items.Goals as goal

pub returns-then-is_endmodule : goal.returns-then-is_endmodule
returns-then-is_endmodule c =
    c.in_ok-copy.ensures
    ∙ own_end (marked c.args.marks.now) c.items.own _ (length c.args.ts.now) c.items.counter c.items.at c.args.ts.now _
    (tail_is c.items.at c.args.ts.now) c.items-test.true
    (ap is_endmodule (sym c.sort_of.ensures) ∙ sym c.if-is_endmodule.ensures) c.items.invariant

pub items-preserved : goal.items-preserved
items-preserved c =
    own_on (marked c.args.marks.now) c.items.own _ _ (length c.args.ts.now) c.items.counter c.items.at c.item_size-size.result c.args.ts.now _ _
    (tail_is c.items.at c.args.ts.now)
    c.items-test.true
    (ap is_endmodule (sym c.sort_of.ensures) ∙ sym c.if-is_endmodule.ensures) c.item_size-size.ensures c.part.ensures c.in_ok-own_item.ensures
    c.items.invariant

pub returns : goal.returns
returns c =
    c.in_ok-copy-2.ensures
    ∙ own_bound (marked c.args.marks.now) c.items.own _ (length c.args.ts.now) c.items.counter c.items.at c.args.ts.now _
    (tail_is c.items.at c.args.ts.now) c.items-test.false c.items.invariant
