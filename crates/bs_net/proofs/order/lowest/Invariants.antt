use Rattle.std.proofs.Common.{◌<◌, ◌≤◌, length, ℕ}
use Rattle.std.specs.Prelude.{slice_index_or}
use Rattle.bs_net.proofs.order.lowest.Given as goal

abbrev pub invariant-loop-i : goal.invariant-loop-i
invariant-loop-i l = record {
  place : l.low < length l.numbers;
  lowest : (k : ℕ) → k < l.i → slice_index_or l.numbers l.low 0 ≤ slice_index_or l.numbers k 0;
}
