use Rattle.std.proofs.Common.{◌≡◌, ◌++◌, ◌-◌, ◌==◌}
use Rattle.std.specs.Int.{bit_at}
use Rattle.std.specs.List.{flat_map, range_with_len}
use Rattle.bs_inspect_view.specs.Recorded.{bit_piece}
use Rattle.bs_inspect_view.proofs.recorded.push_number_bits.Given as goal

abbrev pub invariant-bits : goal.invariant-bits
invariant-bits l = l.text.items ≡ l.initial.text.items ++ flat_map (λ k. bit_piece (bit_at l.number (l.count - 1 - k) == 1)) (range_with_len 0 l.k)
