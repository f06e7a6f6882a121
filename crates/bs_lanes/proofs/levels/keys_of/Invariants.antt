use Rattle.std.proofs.Common.{◌≡◌, map}
use Rattle.std.specs.List.{All, range_with_len}
use Rattle.bs_lanes.specs.Levels.{IsKey, number_in}
use Rattle.bs_lanes.proofs.levels.keys_of.Given as goal

abbrev pub invariant-gates : goal.invariant-gates
invariant-gates l = record {
  each : All (IsKey l.levels l.gates) l.keys.items;
  numbers : map number_in l.keys.items ≡ range_with_len 0 l.i;
}
