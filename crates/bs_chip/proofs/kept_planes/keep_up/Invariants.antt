use Rattle.std.proofs.Common.{◌≡◌}
use Rattle.bs_chip.specs.Lockstep.{TrackShows}
use Rattle.bs_chip.proofs.kept_planes.keep_up.Given as goal

abbrev pub invariant-cycles : goal.invariant-cycles
invariant-cycles l = record {
  same : l.pass ≡ record { circuit = l.fn.pass.circuit; runs = l.fn.pass.runs; cycle = l.at };
  shows : TrackShows l.fn.pass.circuit l.fn.pass.runs l.track;
}
