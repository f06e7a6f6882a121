use Rattle.std.proofs.Common.{◌≡◌, [], map, length}
use Rattle.bs_bits.specs.Lines.{lines_of}
use Rattle.bs_net_names.specs.Keys.{parts_in}
use Rattle.bs_inspect_netlist.specs.Order.{listed_from}
use Rattle.bs_inspect_netlist.proofs.order.read_listed.Given as goal

abbrev pub invariant-lines : goal.invariant-lines
invariant-lines l =
    listed_from (map parts_in l.flops) [] (lines_of l.text) ≡ listed_from (map parts_in l.flops) l.order.items (lines_of l.rest)

abbrev pub decreases-lines : goal.decreases-lines
decreases-lines l = length (lines_of l.rest)
