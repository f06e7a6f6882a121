use Rattle.std.proofs.Common.{◌≡◌, ◌<◌, length}
use Rattle.std.specs.List.{All}
use Rattle.bs_lanes.proofs.places.outputs_of.Given as goal

abbrev pub invariant-gates : goal.invariant-gates
invariant-gates l = record {
  size : length l.listed ≡ l.i;
  below : All (λ n. n < l.nets) l.listed;
}
