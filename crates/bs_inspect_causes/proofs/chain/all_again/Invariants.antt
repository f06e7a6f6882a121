use Rattle.std.proofs.Common.{◌≡◌, true, take}
use Rattle.std.specs.List.{list_all}
use Rattle.bs_inspect_causes.specs.Chains.{may_go}
use Rattle.bs_inspect_causes.proofs.chain.all_again.Given as goal

abbrev pub invariant-causes : goal.invariant-causes
invariant-causes l = list_all (may_go l.later l.account) (take l.fact-index l.causes) ≡ true
