use Rattle.std.proofs.Common.{◌∙◌, sym, ap}
use Rattle.bs_flat_modules.specs.Dealing.{is_design_body}
use Rattle.bs_flat_modules.proofs.PieceLemmas.{tail_is}
use Rattle.bs_flat_modules.proofs.DealLemmas.{deal_design, deal_other, deal_end}
use Rattle.bs_flat_modules.proofs.dealing.deal.Goals as goal

pub pieces-preserved-in_ok-push : goal.pieces-preserved-in_ok-push
pieces-preserved-in_ok-push c =
    rw (c.in_ok-push.ensures.ok, c.len-before.ensures) (deal_design c.args.ts.now c.pieces.modules c.pieces.others c.pieces.from c.in_ok-cut.cut _
    (tail_is c.pieces.from c.args.ts.now) c.in_ok-cut.ensures
    (ap is_design_body (sym c.part.ensures) ∙ sym c.if-is_design.ensures) c.pieces.invariant)

pub pieces-preserved : goal.pieces-preserved
pieces-preserved c =
    rw (c.in_ok-copy.ensures, c.part-else-is_design.ensures) (deal_other c.args.ts.now c.pieces.modules c.pieces.others c.pieces.from c.in_ok-cut.cut _
    (tail_is c.pieces.from c.args.ts.now) c.in_ok-cut.ensures
    (ap is_design_body (sym c.part.ensures) ∙ sym c.if-is_design.ensures) c.pieces.invariant)

pub returns : goal.returns
returns c = deal_end c.args.ts.now c.pieces.modules c.pieces.others c.pieces.from c.pieces-test.false c.pieces.invariant
