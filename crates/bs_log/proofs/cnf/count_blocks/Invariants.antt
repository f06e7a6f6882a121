use Rattle.std.proofs.Common.{◌≡◌, ◌≤◌, ◌+◌, length, take}
use Rattle.bs_log.specs.History.{step_of}
use Rattle.bs_log.specs.Refusal.{history_of}
use Rattle.bs_log.specs.Refutation.{blocks_of}
use Rattle.bs_log.proofs.cnf.count_blocks.Given as goal

abbrev pub invariant-lines : goal.invariant-lines
invariant-lines l = record {
  ended : l.ended + 1 ≡ step_of (history_of (take l.i l.lines));
  count : l.count ≡ length (blocks_of (history_of (take l.i l.lines)) l.step);
  few : l.count ≤ l.i;
  low : l.ended ≤ l.i;
}
