use Rattle.std.proofs.Common.{◌≡◌, take}
use Rattle.bs_inspect_netlist.specs.Sizes.{most_inputs}
use Rattle.bs_inspect_netlist.proofs.sizes.most_inputs.Given as goal

abbrev pub invariant-gates : goal.invariant-gates
invariant-gates l = l.most ≡ most_inputs (take l.gate-index l.gates)
