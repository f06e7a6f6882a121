use Rattle.std.proofs.Common.{◌≡◌}
use Rattle.std.specs.List.{flat_map, range_with_len}
use Rattle.bs_net.specs.Netlist.{parts_of}
use Rattle.bs_inspect_names.specs.Called.{net_named}
use Rattle.bs_inspect_names.proofs.called.nets_named.Given as goal

abbrev pub invariant-nets : goal.invariant-nets
invariant-nets l = l.nets.items ≡ flat_map (net_named (parts_of l.raw) l.name) (range_with_len 0 l.net)
