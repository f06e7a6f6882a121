use Rattle.std.proofs.Common.{take}
use Rattle.bs_clause.specs.Range.{HasVariables}
use Rattle.bs_rows_chip.proofs.solve_rows.is_over.Given as goal

abbrev pub invariant-loop-l : goal.invariant-loop-l
invariant-loop-l l = HasVariables l.vars (take l.l-index l.clause)
