use Rattle.std.proofs.Common.{◌≡◌, ◌++◌, take}
use Rattle.bs_net.specs.Netlist.{parts_of}
use Rattle.bs_inspect_names.specs.Cone.{flops_piece}
use Rattle.bs_inspect_names.proofs.cone.push_flops.Given as goal

abbrev pub invariant-flops : goal.invariant-flops
invariant-flops l = l.text.items ≡ l.initial.text.items ++ flops_piece (parts_of l.raw) l.table (take l.flop-index l.flops)
