use Rattle.std.proofs.Common.{◌≡◌}
use Rattle.bs_scan.specs.Moments.{moment, run_of, state_of}
use Rattle.bs_scan.specs.Signature.{stored_at}
use Rattle.bs_chip.specs.Replay.{in_state}
use Rattle.bs_chip.proofs.moments.replay.Given as goal

abbrev pub invariant-cycles : goal.invariant-cycles
invariant-cycles l = record {
  player : l.player ≡ in_state l.fn.player (state_of l.fn.player.circuit l.fn.player.runs (moment l.moment.run l.cycle));
  register : l.register ≡ record {
    choice = l.fn.register.choice;
    stored = stored_at l.fn.player.circuit l.fn.register.choice (run_of l.fn.player.runs l.moment.run) l.cycle;
  };
}
