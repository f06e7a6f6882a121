use Rattle.std.proofs.Common.{◌+◌, ◌-◌, ◌∙◌, sym, ap, subst}
use Rattle.bs_verilog_syntax.specs.Modules.{is_endmodule}
use Rattle.bs_flat_modules.specs.Items.{stays_inside}
use Rattle.bs_flat_modules.proofs.ShutLemmas.{IsShutting, shut_found, shut_closed, shut_open, shut_step, shut_none}
use Rattle.bs_flat_modules.proofs.alone.is_shut.Goals as goal

pub returns-then-not-inside : goal.returns-then-not-inside
returns-then-not-inside c =
    shut_closed c.args.ts.now c.lexemes.inside c.lexemes.left c.if-not-inside.true
    (shut_found c.args.ts.now c.lexemes.inside c.lexemes.t-index c.lexemes.left c.t-item.result c.lexemes-test.true
    (ap (λ t. is_endmodule t.sort) (sym c.t-item.is) ∙ ap is_endmodule (sym c.sort-sort.ensures) ∙ sym c.if-is_endmodule.ensures) c.lexemes.invariant)

pub returns-else-not-inside : goal.returns-else-not-inside
returns-else-not-inside c =
    shut_open c.args.ts.now c.lexemes.inside c.lexemes.left c.if-not-inside.false
    (shut_found c.args.ts.now c.lexemes.inside c.lexemes.t-index c.lexemes.left c.t-item.result c.lexemes-test.true
    (ap (λ t. is_endmodule t.sort) (sym c.t-item.is) ∙ ap is_endmodule (sym c.sort-sort.ensures) ∙ sym c.if-is_endmodule.ensures) c.lexemes.invariant)

pub lexemes-preserved : goal.lexemes-preserved
lexemes-preserved c =
    rw (c.stays_inside-inside.ensures, c.sort-sort.ensures) (subst
    (λ t. IsShutting c.args.ts.now (stays_inside c.lexemes.inside t.sort) (c.lexemes.t-index + 1) (c.lexemes.left - 1)) (sym c.t-item.is)
    (shut_step c.args.ts.now c.lexemes.inside c.lexemes.t-index c.lexemes.left c.t-item.result c.lexemes-test.true
    (ap (λ t. is_endmodule t.sort) (sym c.t-item.is) ∙ ap is_endmodule (sym c.sort-sort.ensures) ∙ sym c.if-is_endmodule.ensures) c.lexemes.invariant))

pub returns : goal.returns
returns c = shut_none c.args.ts.now c.lexemes.inside c.lexemes.t-index c.lexemes.left c.lexemes-test.false c.lexemes.invariant
