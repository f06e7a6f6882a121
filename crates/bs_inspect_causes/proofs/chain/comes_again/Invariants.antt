use Rattle.std.proofs.Common.{◌≡◌, false, take}
use Rattle.std.specs.List.{list_any}
use Rattle.bs_inspect_causes.specs.Chains.{is_other_again}
use Rattle.bs_inspect_causes.proofs.chain.comes_again.Given as goal

abbrev pub invariant-causes : goal.invariant-causes
invariant-causes l = list_any (is_other_again l.later l.fact) (take l.other-index l.causes) ≡ false
