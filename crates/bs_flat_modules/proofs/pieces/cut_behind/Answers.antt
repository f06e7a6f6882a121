use Rattle.std.proofs.Common.{◌∙◌, sym, ap}
use Rattle.bs_verilog_syntax.specs.Modules.{is_module}
use Rattle.bs_flat_modules.proofs.PieceLemmas.{cut_module, cut_open, cut_nothing, cut_attributes, tail_is}
use Rattle.bs_flat_modules.proofs.pieces.cut_behind.Goals as goal

pub returns-in-Some : goal.returns-in-Some
returns-in-Some c =
    cut_module c.args.ts.now c.args.size c.in-Some.more _ (tail_is c.args.size c.args.ts.now) c.requires.some c.requires.within c.requires.passed
    (ap is_module (sym c.sort_of.ensures) ∙ sym c.if-is_module.ensures) c.in-Some.ensures

pub returns-in-None : goal.returns-in-None
returns-in-None c =
    cut_open c.args.ts.now c.args.size _
    (tail_is c.args.size c.args.ts.now) c.requires.some c.requires.passed (ap is_module (sym c.sort_of.ensures) ∙ sym c.if-is_module.ensures) c.in-None.ensures

pub returns-then-size-eq0 : goal.returns-then-size-eq0
returns-then-size-eq0 c =
    cut_nothing c.args.ts.now c.args.size _ (tail_is c.args.size c.args.ts.now) c.requires.some c.if-size-eq0.true c.requires.passed
    (ap is_module (sym c.sort_of.ensures) ∙ sym c.if-is_module.ensures)

pub returns-else-size-eq0 : goal.returns-else-size-eq0
returns-else-size-eq0 c =
    cut_attributes c.args.ts.now c.args.size _ (tail_is c.args.size c.args.ts.now) c.requires.some c.if-size-eq0.false c.requires.within c.requires.passed
    (ap is_module (sym c.sort_of.ensures) ∙ sym c.if-is_module.ensures)
