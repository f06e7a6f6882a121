use Rattle.std.proofs.Common.{◌≡◌}
use Rattle.bs_inspect_near.proofs.moment.go_to.Given as goal

abbrev pub invariant-cycles : goal.invariant-cycles
invariant-cycles l = record {
  circuit : l.pass.circuit ≡ l.initial.pass.circuit;
  runs : l.pass.runs ≡ l.initial.pass.runs;
  there : l.pass.cycle ≡ l.counter;
}
