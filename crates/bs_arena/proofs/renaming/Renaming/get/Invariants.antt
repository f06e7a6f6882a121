use Rattle.std.proofs.Common.{ℕ, ◌-◌, ◌<◌, ◌≤◌, length, get_or}
use Rattle.bs_arena.proofs.renaming.Renaming.get.Given as goal

abbrev pub invariant-loop-low : goal.invariant-loop-low
invariant-loop-low l = record {
  bound : l.high ≤ length l.self.names;
  order : l.low ≤ l.high;
  before : (i : ℕ) (d : ℕ × ℕ) → i < l.low → (get_or l.self.names i d).0 < l.r;
  after : (i : ℕ) (d : ℕ × ℕ) → l.high ≤ i → i < length l.self.names → l.r ≤ (get_or l.self.names i d).0;
}

abbrev pub decreases-loop-low : goal.decreases-loop-low
decreases-loop-low l = l.high - l.low
