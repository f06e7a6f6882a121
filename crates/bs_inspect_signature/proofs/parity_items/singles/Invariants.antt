use Rattle.std.proofs.Common.{◌≡◌, map}
use Rattle.std.specs.List.{range_with_len}
use Rattle.bs_inspect_signature.specs.Mixed.{single}
use Rattle.bs_inspect_signature.proofs.parity_items.singles.Given as goal

abbrev pub invariant-flops : goal.invariant-flops
invariant-flops l = l.items ≡ map single (range_with_len 0 l.flop)
