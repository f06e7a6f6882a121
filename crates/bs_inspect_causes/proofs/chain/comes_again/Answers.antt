use Rattle.std.proofs.Common.{ap, ◌∙◌, arith}
use Rattle.std.specs.List.{list_any}
use Rattle.bs_inspect_causes.specs.Chains.{is_other_again}
use Rattle.bs_inspect_causes.proofs.SearchLemmas.{any_here, any_more, any_none}
use Rattle.bs_inspect_causes.proofs.chain.comes_again.Goals as goal

pub causes-preserved : goal.causes-preserved
causes-preserved c =
    any_more (is_other_again c.args.later.now c.args.fact) c.slice-causes.result.now c.causes.other-index _ c.is_other_again.result
    (omega (arith, c.causes-test.true)) c.is_other_again.ensures c.if-is_other_again.false c.causes.invariant

pub returns-then-is_other_again : goal.returns-then-is_other_again
returns-then-is_other_again c =
    any_here (is_other_again c.args.later.now c.args.fact) c.slice-causes.result.now c.causes.other-index _ c.is_other_again.result
    (omega (arith, c.causes-test.true)) c.is_other_again.ensures c.if-is_other_again.true
    ∙ ap (list_any (is_other_again c.args.later.now c.args.fact)) c.slice-causes.ensures

pub returns : goal.returns
returns c =
    any_none (is_other_again c.args.later.now c.args.fact) c.slice-causes.result.now c.causes.other-index (omega (arith, c.causes-test.false))
    c.causes.invariant
    ∙ ap (list_any (is_other_again c.args.later.now c.args.fact)) c.slice-causes.ensures
