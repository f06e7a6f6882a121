use Rattle.std.proofs.Common.{◌≡◌, ◌++◌, ◌-◌}
use Rattle.std.specs.List.{range_with_len}
use Rattle.bs_flat_nets.proofs.free.push_range.Given as goal

abbrev pub invariant-nets : goal.invariant-nets
invariant-nets l = l.into ≡ l.initial.into ++ range_with_len l.from (l.net - l.from)
