use Rattle.std.proofs.Common.{◌≡◌, ◌≤◌, ◌+◌, take}
use Rattle.bs_log.specs.History.{step_of}
use Rattle.bs_log.specs.Refusal.{history_of}
use Rattle.bs_log.proofs.Walking.{NoneBefore}
use Rattle.bs_log.proofs.finish.finish_place.Given as goal

abbrev pub invariant-lines : goal.invariant-lines
invariant-lines l = record {
  ended : l.ended + 1 ≡ step_of (history_of (take l.i l.lines));
  none : NoneBefore l.lines l.step l.i;
  low : l.ended ≤ l.i;
}
