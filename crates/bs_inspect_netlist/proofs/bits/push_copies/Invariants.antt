use Rattle.std.proofs.Common.{◌≡◌, ◌++◌}
use Rattle.std.specs.List.{flat_map, range_with_len}
use Rattle.bs_net.specs.Netlist.{parts_of}
use Rattle.bs_inspect_netlist.specs.Lines.{copy_piece}
use Rattle.bs_inspect_netlist.proofs.bits.push_copies.Given as goal

abbrev pub invariant-nets : goal.invariant-nets
invariant-nets l =
    l.text.items ≡ l.initial.text.items ++ flat_map (copy_piece (parts_of l.raw) l.sources l.net) (range_with_len 0 l.other)
