use Rattle.std.proofs.Common.{ap, ◌∙◌, arith}
use Rattle.std.specs.List.{list_all}
use Rattle.bs_inspect_causes.specs.Chains.{may_go}
use Rattle.bs_inspect_causes.proofs.SearchLemmas.{all_more, all_not, all_whole}
use Rattle.bs_inspect_causes.proofs.chain.all_again.Goals as goal

pub causes-preserved : goal.causes-preserved
causes-preserved c =
    all_more (may_go c.args.later.now c.args.account.now) c.slice-causes.result.now c.causes.fact-index _ c.may_go.result
    (omega (arith, c.causes-test.true)) c.may_go.ensures c.if-not-may_go.false c.causes.invariant

pub returns-then-not-may_go : goal.returns-then-not-may_go
returns-then-not-may_go c =
    all_not (may_go c.args.later.now c.args.account.now) c.slice-causes.result.now c.causes.fact-index _ c.may_go.result
    (omega (arith, c.causes-test.true)) c.may_go.ensures c.if-not-may_go.true
    ∙ ap (list_all (may_go c.args.later.now c.args.account.now)) c.slice-causes.ensures

pub returns : goal.returns
returns c =
    all_whole (may_go c.args.later.now c.args.account.now) c.slice-causes.result.now c.causes.fact-index (omega (arith, c.causes-test.false))
    c.causes.invariant
    ∙ ap (list_all (may_go c.args.later.now c.args.account.now)) c.slice-causes.ensures
