use Rattle.std.proofs.Common.{◌≡◌, ℕ, ◌<◌, ◌+◌}
use Rattle.bs_net_names.specs.Spots.{feeds_before}
use Rattle.bs_net_names.proofs.starts.line_start.Given as goal

abbrev pub invariant-bytes : goal.invariant-bytes
invariant-bytes l = record {
  counted : feeds_before l.text l.i + 1 + l.left ≡ l.number;
  least : (k : ℕ) → k < l.i → feeds_before l.text k + 1 < l.number;
}
