use Rattle.std.proofs.Common.{◌≡◌, map}
use Rattle.std.specs.List.{range_with_len}
use Rattle.bs_inspect_netlist.specs.Order.{pattern_bit}
use Rattle.bs_inspect_netlist.proofs.pattern.pattern_bits.Given as goal

abbrev pub invariant-flops : goal.invariant-flops
invariant-flops l = l.bits ≡ map (pattern_bit l.order l.pattern) (range_with_len 0 l.flop)
