use Rattle.std.proofs.Common.{◌≡◌, ◌≤◌, ◌-◌}
use Rattle.bs_scan.specs.Moments.{run_of}
use Rattle.bs_scan.specs.Signature.{signatures_before}
use Rattle.bs_chip.specs.Replay.{IsSameChip}
use Rattle.bs_chip.proofs.kept_planes.recall_register.Given as goal

abbrev pub invariant-cycles : goal.invariant-cycles
invariant-cycles l = record {
  same : IsSameChip l.fn.player l.player;
  begun : l.first ≤ l.cycle;
  within : l.cycle ≤ l.moment.cycle;
  register : l.register ≡ record {
    choice = l.fn.register.choice;
    stored = signatures_before l.fn.player.circuit l.fn.register.choice (run_of l.fn.player.runs l.moment.run) (l.cycle - l.first) l.cycle;
  };
}
