use Rattle.std.proofs.Common.{◌≡◌, ◌+◌}
use Rattle.bs_chip.specs.Lockstep.{NoneBefore, TrackShows}
use Rattle.bs_chip.proofs.kept_planes.first_behind.Given as goal

abbrev pub invariant-cycles : goal.invariant-cycles
invariant-cycles g l = record {
  same : l.pass ≡ record { circuit = l.fn.pass.circuit; runs = l.fn.pass.runs; cycle = l.at };
  shows : TrackShows l.fn.pass.circuit l.fn.pass.runs l.track;
  none : NoneBefore l.fn.pass.circuit l.fn.pass.runs l.bank.states (l.at + 1);
}
