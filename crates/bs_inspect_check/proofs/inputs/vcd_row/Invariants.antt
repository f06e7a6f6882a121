use Rattle.std.proofs.Common.{◌≡◌}
use Rattle.bs_inspect_check.specs.Inputs.{vcd_row}
use Rattle.bs_inspect_check.proofs.inputs.vcd_row.Given as goal

abbrev pub invariant-places : goal.invariant-places
invariant-places l = l.levels ≡ vcd_row l.place l.vcd l.cycle
