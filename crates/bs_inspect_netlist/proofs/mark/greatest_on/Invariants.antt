use Rattle.std.proofs.Common.{◌≡◌, ◌≤◌, take}
use Rattle.bs_inspect_netlist.specs.Marks.{greatest_on}
use Rattle.bs_inspect_netlist.proofs.mark.greatest_on.Given as goal

abbrev pub invariant-nets : goal.invariant-nets
invariant-nets l = record {
  is : l.greatest ≡ greatest_on l.table (take l.net-index l.nets);
  small : l.greatest ≤ l.bound;
}
