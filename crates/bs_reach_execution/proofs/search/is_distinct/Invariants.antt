use Rattle.std.proofs.Common.{◌≡◌, drop}
use Rattle.bs_log.specs.Refusal.{has_distinct_variables}
use Rattle.bs_reach_execution.proofs.search.is_distinct.Given as goal

abbrev pub invariant-loop-i : goal.invariant-loop-i
invariant-loop-i l = has_distinct_variables l.clause ≡ has_distinct_variables (drop l.i l.clause)
