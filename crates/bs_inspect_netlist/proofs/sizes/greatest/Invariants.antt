use Rattle.std.proofs.Common.{◌≡◌, take}
use Rattle.bs_inspect_netlist.specs.Sizes.{greatest}
use Rattle.bs_inspect_netlist.proofs.sizes.greatest.Given as goal

abbrev pub invariant-numbers : goal.invariant-numbers
invariant-numbers l = l.greatest ≡ greatest (take l.number-index l.numbers)
