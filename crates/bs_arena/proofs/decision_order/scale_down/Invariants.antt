use Rattle.std.proofs.Common.{◌≡◌, ◌≤◌, ◌<◌, ◌/◌, ℕ, length, get_or}
use Rattle.bs_arena.proofs.decision_order.scale_down.Given as goal

abbrev pub invariant-variables : goal.invariant-variables
invariant-variables l = record {
  long : length l.activities ≡ length l.initial.activities;
  done : (v : ℕ) → v < l.at → get_or l.activities v 0 ≡ get_or l.initial.activities v 0 / 1073741824;
  ahead : (v : ℕ) → l.at ≤ v → get_or l.activities v 0 ≡ get_or l.initial.activities v 0;
}
