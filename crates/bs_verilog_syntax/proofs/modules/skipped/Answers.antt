use Rattle.std.proofs.Common.{◌∙◌, sym, ap, inr, arith}
use Rattle.bs_verilog_syntax.specs.Modules.{is_endmodule, is_end}
use Rattle.bs_verilog_syntax.proofs.CellLemmas.{skipped_found, skipped_fault, skipped_on, skipped_end}
use Rattle.bs_verilog_syntax.proofs.modules.skipped.Goals as goal

pub returns-then-is_endmodule : goal.returns-then-is_endmodule
returns-then-is_endmodule c =
    record {
      skips = rw c.rest_of.ensures.rest (skipped_found c.loop-rest.rest.now _ c.loop-rest-test.true (ap is_endmodule (sym c.sort_of.ensures)
          ∙ sym c.if-is_endmodule.ensures) c.loop-rest.invariant);
    }

pub returns-then-is_end : goal.returns-then-is_end
returns-then-is_end c =
    record {
      skips = inr (rw c.place_of.ensures (skipped_fault c.loop-rest.rest.now _ c.loop-rest-test.true (ap is_endmodule (sym c.sort_of.ensures)
          ∙ sym c.if-is_endmodule.ensures) (ap is_end (sym c.sort_of-in-loop-rest.ensures) ∙ sym c.if-is_end.ensures) c.loop-rest.invariant));
    }

pub loop-rest-preserved : goal.loop-rest-preserved
loop-rest-preserved c =
    rw c.rest_of-rest.ensures.rest (skipped_on c.loop-rest.rest.now _ c.loop-rest-test.true (ap is_endmodule (sym c.sort_of.ensures)
    ∙ sym c.if-is_endmodule.ensures) (ap is_end (sym c.sort_of-in-loop-rest.ensures) ∙ sym c.if-is_end.ensures) c.loop-rest.invariant)

pub returns : goal.returns
returns c = record { skips = skipped_end c.loop-rest.rest.now _ (omega (arith, c.loop-rest-test.false)) c.loop-rest.invariant }
