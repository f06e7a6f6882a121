use Rattle.std.proofs.Common.{◌∙◌, sym, ap}
use Rattle.bs_verilog_syntax.specs.Modules.{is_endmodule}
use Rattle.bs_flat_modules.proofs.PieceLemmas.{end_on, end_found, end_none, tail_is}
use Rattle.bs_flat_modules.proofs.pieces.size_to_endmodule.Goals as goal

pub returns-then-is_endmodule : goal.returns-then-is_endmodule
returns-then-is_endmodule c =
    end_found c.lexemes.at c.args.ts.now _
    (tail_is c.lexemes.at c.args.ts.now) c.lexemes-test.true (ap is_endmodule (sym c.sort_of.ensures) ∙ sym c.if-is_endmodule.ensures) c.lexemes.invariant

pub lexemes-preserved : goal.lexemes-preserved
lexemes-preserved c =
    end_on c.lexemes.at c.args.ts.now _ (tail_is c.lexemes.at c.args.ts.now) c.lexemes-test.true (ap is_endmodule (sym c.sort_of.ensures) ∙
    sym c.if-is_endmodule.ensures) c.lexemes.invariant

pub returns : goal.returns
returns c = end_none c.lexemes.at c.args.ts.now c.lexemes-test.false c.lexemes.invariant
