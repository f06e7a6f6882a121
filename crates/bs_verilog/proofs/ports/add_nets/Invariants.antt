use Rattle.std.proofs.Common.{◌≡◌, ◌++◌, take}
use Rattle.bs_verilog.proofs.ports.add_nets.Given as goal

abbrev pub invariant-nets : goal.invariant-nets
invariant-nets l = l.into ≡ l.initial.into ++ take l.net-index l.nets
