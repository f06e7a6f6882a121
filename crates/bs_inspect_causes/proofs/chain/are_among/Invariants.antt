use Rattle.std.proofs.Common.{◌≡◌, true, take}
use Rattle.bs_inspect_causes.specs.Chains.{are_among}
use Rattle.bs_inspect_causes.proofs.chain.are_among.Given as goal

abbrev pub invariant-facts : goal.invariant-facts
invariant-facts l = are_among (take l.fact-index l.facts) l.others ≡ true
