use Rattle.std.proofs.Common.{◌≡◌}
use Rattle.bs_rup.specs.Retired.{retired_units}
use Rattle.bs_rup.proofs.verdict.retired.Given as goal

abbrev pub invariant-loop-i : goal.invariant-loop-i
invariant-loop-i l = l.units ≡ retired_units l.fn.vars l.i
