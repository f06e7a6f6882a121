use Rattle.std.proofs.Common.{◌≡◌, ◌-◌, take, length}
use Rattle.std.specs.List.{flat_map}
use Rattle.bs_flat_nets.specs.Blocks.{joins_of_run}
use Rattle.bs_flat_nets.proofs.joined.unjoined.Given as goal

abbrev pub invariant-runs : goal.invariant-runs
invariant-runs l = l.left ≡ l.nets - length (flat_map joins_of_run (take l.run-index l.runs))
