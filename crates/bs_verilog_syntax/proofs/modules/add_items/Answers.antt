use Rattle.std.proofs.Common.{◌∙◌, sym, ap, inr, ◌+◌, length}
use Rattle.std.proofs.lemmas.Result.{err_from_is_err_and}
use Rattle.bs_verilog_syntax.specs.Modules.{is_endmodule}
use Rattle.bs_verilog_syntax.proofs.BodyLemmas.{items_end, items_on, items_attributes, items_item, items_bound}
use Rattle.bs_verilog_syntax.proofs.modules.add_items.Goals as goal

pub returns-then-is_endmodule : goal.returns-then-is_endmodule
returns-then-is_endmodule c =
    record {
      reads = rw c.rest_of.ensures.rest (items_end c.items.adds (length c.args.ts.now + 1) c.items.counter c.items.rest.now c.args.ts.now c.items-test.true
          (ap is_endmodule (sym c.sort_of.ensures) ∙ sym c.if-is_endmodule.ensures) c.items.invariant);
    }

pub returns-in_err-here : goal.returns-in_err-here
returns-in_err-here c =
    let p = err_from_is_err_and c.from_residual.result c.from_residual.ensures.1 in
    record {
      reads = rw (p.1, p.2) (items_attributes c.items.adds (length c.args.ts.now + 1) c.items.counter c.items.rest.now c.args.ts.now _ c.items-test.true
          (ap is_endmodule (sym c.sort_of.ensures) ∙ sym c.if-is_endmodule.ensures) c.in_err-here.ensures.skips c.items.invariant);
    }

pub returns-in_err-more : goal.returns-in_err-more
returns-in_err-more c =
    let p = err_from_is_err_and c.from_residual-in_err-more.result c.from_residual-in_err-more.ensures.1 in
    record {
      reads = rw (p.1, p.2) (items_item c.items.adds (length c.args.ts.now + 1) c.items.counter c.items.rest.now c.in_ok-here.here.now c.args.ts.now _
          c.items-test.true (ap is_endmodule (sym c.sort_of.ensures)
          ∙ sym c.if-is_endmodule.ensures) c.in_ok-here.ensures.skips c.in_err-more.ensures.reads c.items.invariant);
    }

pub items-preserved : goal.items-preserved
items-preserved c =
    rw c.in_ok-extend.ensures.ok (items_on c.items.adds c.in_ok-more.more (length c.args.ts.now + 1) c.items.counter c.items.rest.now c.in_ok-here.here.now
    c.in_ok-more.after.now c.args.ts.now c.items-test.true (ap is_endmodule (sym c.sort_of.ensures)
    ∙ sym c.if-is_endmodule.ensures) c.in_ok-here.ensures.skips c.in_ok-more.ensures.reads c.items.invariant)

pub returns : goal.returns
returns c =
    record {
      reads = inr (rw c.refused.ensures.fault (items_bound c.items.adds (length c.args.ts.now + 1) c.items.counter c.items.rest.now c.args.ts.now
          c.items-test.false c.items.invariant));
    }
