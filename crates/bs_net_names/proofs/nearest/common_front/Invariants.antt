use Rattle.std.proofs.Common.{◌≡◌, ℕ, ◌<◌, ◌≤◌, ◌-◌, get_or, length, true}
use Rattle.std.specs.Prelude.{◌==◌}
use Rattle.bs_net_names.proofs.nearest.common_front.Given as goal

abbrev pub invariant-bytes : goal.invariant-bytes
invariant-bytes l = record {
  left : l.n ≤ length l.a;
  right : l.n ≤ length l.b;
  same : (k : ℕ) → k < l.n → (get_or l.a k 0 == get_or l.b k 0) ≡ true;
}

abbrev pub decreases-bytes : goal.decreases-bytes
decreases-bytes l = length l.a - l.n
