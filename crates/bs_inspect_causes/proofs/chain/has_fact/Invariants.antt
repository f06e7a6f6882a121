use Rattle.std.proofs.Common.{◌≡◌, false, take}
use Rattle.bs_inspect_causes.specs.Chains.{has_fact}
use Rattle.bs_inspect_causes.proofs.chain.has_fact.Given as goal

abbrev pub invariant-facts : goal.invariant-facts
invariant-facts l = has_fact (take l.other-index l.facts) l.fact ≡ false
