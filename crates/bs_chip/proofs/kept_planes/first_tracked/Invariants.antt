use Rattle.std.proofs.Common.{◌≡◌}
use Rattle.bs_chip.specs.Lockstep.{NoneBefore}
use Rattle.bs_chip.proofs.kept_planes.first_tracked.Given as goal

abbrev pub invariant-cycles : goal.invariant-cycles
invariant-cycles g l = record {
  same : l.pass ≡ l.initial.pass;
  none : NoneBefore l.initial.pass.circuit l.initial.pass.runs l.bank.states l.at;
}
