use Rattle.std.proofs.Common.{◌≡◌, map}
use Rattle.std.specs.List.{range_with_len}
use Rattle.bs_inspect_netlist.specs.Order.{is_unlisted}
use Rattle.bs_inspect_netlist.proofs.pattern.unlisted.Given as goal

abbrev pub invariant-flops : goal.invariant-flops
invariant-flops l = l.free ≡ map (is_unlisted l.order) (range_with_len 0 l.flop)
