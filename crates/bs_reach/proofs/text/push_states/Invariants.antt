use Rattle.std.proofs.Common.{◌≡◌, ◌++◌}
use Rattle.std.specs.List.{flat_map, range_with_len}
use Rattle.bs_reach.specs.Text.{cycle_text}
use Rattle.bs_reach.proofs.text.push_states.Given as goal

abbrev pub invariant-cycles : goal.invariant-cycles
invariant-cycles l = l.text.items ≡ l.initial.text.items ++ flat_map (cycle_text l.reach) (range_with_len 0 l.i)
