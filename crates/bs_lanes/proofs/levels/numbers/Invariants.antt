use Rattle.std.proofs.Common.{◌≡◌, map, take}
use Rattle.bs_lanes.specs.Levels.{number_in}
use Rattle.bs_lanes.proofs.levels.numbers.Given as goal

abbrev pub invariant-keys : goal.invariant-keys
invariant-keys l = l.numbers.items ≡ map number_in (take l.key-index l.keys)
