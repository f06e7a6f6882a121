use Rattle.std.proofs.Common.{arith, ap, not}
use Rattle.bs_inspect_causes.specs.Accounts.{is_cause}
use Rattle.bs_inspect_causes.proofs.ChainLemmas.{kind_all, kind_more}
use Rattle.bs_inspect_causes.proofs.block_account.holds_of.Goals as goal

pub given-preserved : goal.given-preserved
given-preserved c =
    kind_more (λ f. not (is_cause c.args.block.now f)) c.args.given.now c.given.fact-index _ _ _ _ (omega (arith, c.given-test.true))
    (ap not c.is_cause-cause.ensures) c.in_ok-push_wanted.ensures c.given.invariant

pub returns : goal.returns
returns c =
    kind_all (λ f. not (is_cause c.args.block.now f)) c.args.given.now c.given.fact-index _ (omega (arith, c.given-test.false)) c.given.invariant
