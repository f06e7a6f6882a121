use Rattle.std.proofs.Common.{◌≡◌, length}
use Rattle.bs_preimage_recorded.specs.Forward.{Extended, IsForward}
use Rattle.bs_chip.specs.Lockstep.{IsSamePass}
use Rattle.bs_preimage_recorded.proofs.forward.reach_by.Given as goal

abbrev pub invariant-cycles : goal.invariant-cycles
invariant-cycles l = record {
  same : IsSamePass l.fn.pass l.pass;
  low : l.low ≡ l.fn.low;
  high : l.high ≡ l.fn.high;
  ahead : IsForward l.pass l.fn.low l.fn.high l.rows;
  grows : Extended l.fn.rows l.rows;
  count : length l.rows ≡ l.counter;
}
