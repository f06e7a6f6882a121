use Rattle.std.proofs.Common.{arith}
use Rattle.bs_inspect_causes.specs.Accounts.{is_cause}
use Rattle.bs_inspect_causes.proofs.ChainLemmas.{kind_all, kind_more}
use Rattle.bs_inspect_causes.proofs.block_account.causes_of.Goals as goal

pub given-preserved : goal.given-preserved
given-preserved c =
    kind_more (is_cause c.args.block.now) c.args.given.now c.given.fact-index _ _ _ _ (omega (arith, c.given-test.true)) c.is_cause-cause.ensures
    c.in_ok-push_wanted.ensures c.given.invariant

pub returns : goal.returns
returns c = kind_all (is_cause c.args.block.now) c.args.given.now c.given.fact-index _ (omega (arith, c.given-test.false)) c.given.invariant
