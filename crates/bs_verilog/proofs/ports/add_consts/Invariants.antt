use Rattle.std.proofs.Common.{◌≡◌, ◌++◌, take}
use Rattle.bs_verilog.specs.Netlist.{consts_of}
use Rattle.bs_verilog.proofs.ports.add_consts.Given as goal

abbrev pub invariant-nets : goal.invariant-nets
invariant-nets l = l.consts ≡ l.initial.consts ++ consts_of l.value (take l.net-index l.nets)
