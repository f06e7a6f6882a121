use Rattle.std.proofs.Common.{◌≡◌, ℕ, ◌<◌, ◌≤◌, ◌-◌, get_or, length, false}
use Rattle.std.specs.Prelude.{◌==◌}
use Rattle.bs_net_names.proofs.spot.end_of.Given as goal

abbrev pub invariant-bytes : goal.invariant-bytes
invariant-bytes l = record {
  after : l.at ≤ l.end;
  within : l.end ≤ length l.text;
  inside : (k : ℕ) → l.at ≤ k → k < l.end → (get_or l.text k 0 == 10) ≡ false;
}

abbrev pub decreases-bytes : goal.decreases-bytes
decreases-bytes l = length l.text - l.end
