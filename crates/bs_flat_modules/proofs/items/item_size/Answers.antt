use Rattle.std.proofs.Common.{◌∙◌, sym, ap}
use Rattle.bs_verilog_syntax.specs.Modules.{is_endmodule}
use Rattle.bs_flat_modules.proofs.PieceLemmas.{tail_is}
use Rattle.bs_flat_modules.proofs.ItemLemmas.{open_on, item_at_end, item_here, item_all}
use Rattle.bs_flat_modules.proofs.items.item_size.Goals as goal

pub returns-then-is_endmodule : goal.returns-then-is_endmodule
returns-then-is_endmodule c =
    item_at_end c.lexemes.inside c.lexemes.at c.args.ts.now _ (tail_is c.lexemes.at c.args.ts.now) c.lexemes-test.true
    (ap is_endmodule (sym c.sort_of-sort.ensures) ∙ sym c.if-is_endmodule.ensures) c.lexemes.invariant

pub returns-then-is_semicolon : goal.returns-then-is_semicolon
returns-then-is_semicolon c =
    item_here c.lexemes.inside c.lexemes.at c.args.ts.now _ (tail_is c.lexemes.at c.args.ts.now) c.lexemes-test.true
    (ap is_endmodule (sym c.sort_of-sort.ensures) ∙ sym c.if-is_endmodule.ensures) (sym c.if-is_semicolon.ensures) c.lexemes.invariant

pub lexemes-preserved : goal.lexemes-preserved
lexemes-preserved c =
    rw (c.stays_inside-inside.ensures, c.sort_of-sort.ensures) (open_on c.lexemes.inside c.lexemes.at c.args.ts.now _
    (tail_is c.lexemes.at c.args.ts.now) c.lexemes-test.true
    (ap is_endmodule (sym c.sort_of-sort.ensures) ∙ sym c.if-is_endmodule.ensures) (sym c.if-is_semicolon.ensures) c.lexemes.invariant)

pub returns : goal.returns
returns c = item_all c.lexemes.inside c.lexemes.at c.args.ts.now c.lexemes-test.false c.lexemes.invariant
