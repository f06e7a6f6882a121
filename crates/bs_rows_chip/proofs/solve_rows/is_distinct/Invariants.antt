use Rattle.std.proofs.Common.{◌≡◌, drop}
use Rattle.bs_log.specs.Refusal.{has_distinct_variables}
use Rattle.bs_rows_chip.proofs.solve_rows.is_distinct.Given as goal

abbrev pub invariant-loop-i : goal.invariant-loop-i
invariant-loop-i l = has_distinct_variables l.clause ≡ has_distinct_variables (drop l.i l.clause)
