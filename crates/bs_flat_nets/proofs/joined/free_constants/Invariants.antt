use Rattle.std.proofs.Common.{◌≡◌, ◌≤◌, take, length}
use Rattle.std.specs.Prelude.{filter}
use Rattle.std.specs.List.{flat_map}
use Rattle.bs_flat_nets.specs.Blocks.{joins_of_run}
use Rattle.bs_flat_nets.specs.Constants.{is_free}
use Rattle.bs_flat_nets.proofs.joined.free_constants.Given as goal

abbrev pub invariant-each : goal.invariant-each
invariant-each l = record {
  is : l.count ≡ length (filter (is_free l.value (flat_map joins_of_run l.runs)) (take l.bit-index l.bits));
  few : l.count ≤ l.bit-index;
}
