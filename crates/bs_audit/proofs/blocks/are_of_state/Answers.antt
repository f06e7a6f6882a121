use Rattle.std.proofs.Common.{◌∙◌, sym, arith}
use Rattle.std.proofs.lemmas.Bool.{false≢true}
use Rattle.bs_audit.proofs.BlockLemmas.{variables_differ, variables_more}
use Rattle.bs_audit.proofs.blocks.are_of_state.Goals as goal

pub returns-then-var : goal.returns-then-var
returns-then-var c = (
  λ t. absurd (false≢true t),
  λ e. absurd
      (variables_differ c.args.literals.now c.args.encoding.now.states c.literals.i c.index-literals-i.result c.state_lit.result
      (omega (arith, c.literals-test.true, c.if-literals-width.false))
      (omega (arith, c.literals-test.true, c.requires)) c.index-literals-i.is c.state_lit.ensures
      (λ same. c.if-var.true (c.var.ensures.variable ∙ (same ∙ sym c.var-in-literals.ensures.variable))) e),
)

pub literals-preserved : goal.literals-preserved
literals-preserved c =
    variables_more c.args.literals.now c.args.encoding.now.states c.literals.i c.index-literals-i.result c.state_lit.result
    (omega (arith, c.literals-test.true, c.if-literals-width.false))
    (omega (arith, c.literals-test.true, c.requires)) c.index-literals-i.is c.state_lit.ensures
    (sym c.var.ensures.variable ∙ (c.if-var.false ∙ c.var-in-literals.ensures.variable)) c.literals.invariant
