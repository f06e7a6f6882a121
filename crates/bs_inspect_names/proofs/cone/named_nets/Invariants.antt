use Rattle.std.proofs.Common.{◌≡◌}
use Rattle.bs_net.specs.Netlist.{parts_of}
use Rattle.bs_inspect_names.specs.Cone.{named_nets}
use Rattle.bs_inspect_names.proofs.cone.named_nets.Given as goal

abbrev pub invariant-nets : goal.invariant-nets
invariant-nets l = l.table.items ≡ named_nets (parts_of l.raw) l.name l.net
