use Rattle.std.proofs.Common.{◌≡◌}
use Rattle.bs_inspect_check.specs.Inputs.{inputs_at, run_row}
use Rattle.bs_inspect_check.proofs.inputs.run_row.Given as goal

abbrev pub invariant-places : goal.invariant-places
invariant-places l = l.bits ≡ run_row l.place (inputs_at l.runs l.i) l.cycle
