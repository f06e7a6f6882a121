use Rattle.std.proofs.Common.{◌≡◌, ℕ, ◌<◌, ◌≤◌, get_or, false}
use Rattle.std.specs.Prelude.{◌==◌}
use Rattle.bs_net_names.proofs.spot.start_of.Given as goal

abbrev pub invariant-bytes : goal.invariant-bytes
invariant-bytes l = record {
  within : l.start ≤ l.at;
  inside : (k : ℕ) → l.start ≤ k → k < l.at → (get_or l.text k 0 == 10) ≡ false;
}

abbrev pub decreases-bytes : goal.decreases-bytes
decreases-bytes l = l.start
