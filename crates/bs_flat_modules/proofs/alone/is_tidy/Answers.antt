use Rattle.std.proofs.Common.{◌∙◌, refl, sym, ap}
use Rattle.bs_verilog_syntax.specs.Modules.{is_end}
use Rattle.bs_flat_modules.specs.Alone.{is_whole_module}
use Rattle.bs_flat_modules.proofs.PieceLemmas.{tail_is}
use Rattle.bs_flat_modules.proofs.TidyLemmas.{tidy_on, tidy_end}
use Rattle.bs_flat_modules.proofs.alone.is_tidy.Goals as goal

pub returns-then-is_end : goal.returns-then-is_end
returns-then-is_end c =
    tidy_end c.args.ts.now c.pieces.from _ _ (tail_is c.pieces.from c.args.ts.now) (ap is_end (sym c.sort_of.ensures) ∙ sym c.if-is_end.ensures) refl
    c.pieces.invariant

pub pieces-preserved : goal.pieces-preserved
pieces-preserved c =
    tidy_on c.args.ts.now c.pieces.from c.in_ok-cut.cut _ (tail_is c.pieces.from c.args.ts.now) c.in_ok-cut.ensures
    (ap is_whole_module (sym c.part.ensures) ∙ sym c.if-not-is_whole_module.ensures) c.pieces.invariant
