use Rattle.bs_inspect_causes.proofs.ChainLemmas.{NoneOn}
use Rattle.bs_inspect_causes.proofs.chain.chain_of.Given as goal

abbrev pub invariant-chains : goal.invariant-chains
invariant-chains l = NoneOn l.accounts l.number l.chains l.k
