use Rattle.std.proofs.Common.{◌≡◌, ◌≤◌, ◌<◌, ◌+◌, ◌-◌, ℕ, length, get_or}
use Rattle.bs_flat_nets.specs.Climbing.{no_run}
use Rattle.bs_flat_nets.proofs.climbing.count_to.Given as goal

abbrev pub decreases-search : goal.decreases-search
decreases-search l = l.high - l.low

abbrev pub invariant-search : goal.invariant-search
invariant-search l = record {
  order : l.low ≤ l.high;
  within : l.high ≤ length l.row;
  below : (i : ℕ) → l.low ≡ i + 1 → (get_or l.row i no_run).inner ≤ l.net;
  above : l.high < length l.row → l.net < (get_or l.row l.high no_run).inner;
}
