use Rattle.bs_inspect_causes.proofs.ChainLemmas.{chains_more}
use Rattle.bs_inspect_causes.proofs.chain.chains_of.Goals as goal

pub accounts-preserved : goal.accounts-preserved
accounts-preserved c = record {
  so_far =
      chains_more c.args.accounts.now c.accounts.chains.items c.add_account.new.chains.items c.accounts.i c.accounts.invariant.so_far
      c.in_ok-add_account.ensures.chains;
  within = c.in_ok-add_account.ensures.within;
}
