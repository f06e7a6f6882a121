use Rattle.std.proofs.Common.{arith}
use Rattle.bs_inspect_causes.proofs.ChainLemmas.{first_at, more_at, none_all}
use Rattle.bs_inspect_causes.proofs.chain.chain_of.Goals as goal

pub returns-then-goes_on_at : goal.returns-then-goes_on_at
returns-then-goes_on_at c =
    first_at c.args.accounts.now c.args.number c.args.chains.now c.chains.k c.goes_on_at.result (omega (arith, c.chains-test.true))
    c.goes_on_at.ensures c.if-goes_on_at.true c.chains.invariant

pub chains-preserved : goal.chains-preserved
chains-preserved c =
    more_at c.args.accounts.now c.args.number c.args.chains.now c.chains.k c.goes_on_at.result (omega (arith, c.chains-test.true))
    c.goes_on_at.ensures c.if-goes_on_at.false c.chains.invariant

pub returns : goal.returns
returns c = none_all c.args.accounts.now c.args.number c.args.chains.now c.chains.k (omega (arith, c.chains-test.false)) c.chains.invariant
