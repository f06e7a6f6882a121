use Rattle.std.proofs.Common.{◌≡◌}
use Rattle.std.specs.List.{flat_map, range_with_len}
use Rattle.bs_inspect_why_words.specs.Stretches.{start_at}
use Rattle.bs_inspect_why_words.proofs.stretch.starts.Given as goal

abbrev pub invariant-facts : goal.invariant-facts
invariant-facts l = l.begins.items ≡ flat_map (start_at l.facts) (range_with_len 0 l.i)
