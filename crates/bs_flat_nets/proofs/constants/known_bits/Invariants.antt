use Rattle.std.proofs.Common.{◌≡◌}
use Rattle.std.specs.List.{flat_map, range_with_len}
use Rattle.bs_flat_nets.specs.Constants.{entry_at}
use Rattle.bs_flat_nets.proofs.constants.known_bits.Given as goal

abbrev pub invariant-nets : goal.invariant-nets
invariant-nets l = l.bits ≡ flat_map (entry_at l.table) (range_with_len 0 l.net)
