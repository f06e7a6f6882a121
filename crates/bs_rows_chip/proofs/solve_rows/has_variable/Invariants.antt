use Rattle.std.proofs.Common.{◌≡◌, take, false}
use Rattle.std.specs.Prelude.{◌==◌}
use Rattle.std.specs.List.{list_any}
use Rattle.bs_clause.specs.Literal.{Literal}
use Rattle.bs_rows_chip.proofs.solve_rows.has_variable.Given as goal

abbrev pub invariant-loop-m : goal.invariant-loop-m
invariant-loop-m l = list_any (λ (m : Literal). m.variable == l.variable) (take l.m-index l.clause) ≡ false
