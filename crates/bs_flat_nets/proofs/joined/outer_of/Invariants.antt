use Rattle.std.proofs.Common.{◌≡◌, drop}
use Rattle.std.specs.List.{flat_map}
use Rattle.bs_flat_meaning.specs.Meaning.{joined_with}
use Rattle.bs_flat_nets.specs.Blocks.{joins_of_run}
use Rattle.bs_flat_nets.proofs.joined.outer_of.Given as goal

abbrev pub invariant-each : goal.invariant-each
invariant-each l = joined_with (flat_map joins_of_run (drop l.run-index l.runs)) l.net ≡ joined_with (flat_map joins_of_run l.runs) l.net
