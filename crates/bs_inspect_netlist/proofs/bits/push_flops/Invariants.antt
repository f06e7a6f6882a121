use Rattle.std.proofs.Common.{◌≡◌, ◌++◌}
use Rattle.std.specs.List.{flat_map, range_with_len}
use Rattle.bs_net.specs.Netlist.{parts_of}
use Rattle.bs_inspect_netlist.specs.Lines.{flop_at_line}
use Rattle.bs_inspect_netlist.proofs.bits.push_flops.Given as goal

abbrev pub invariant-flops : goal.invariant-flops
invariant-flops l = l.text.items ≡ l.initial.text.items ++ flat_map (flop_at_line (parts_of l.raw) l.sources) (range_with_len 0 l.i)
