use Rattle.std.proofs.Common.{◌≤◌}
use Rattle.bs_solve.specs.Between.{AreBetween}
use Rattle.bs_solve.proofs.value.values_between.Given as goal

abbrev pub invariant-numbers : goal.invariant-numbers
invariant-numbers l = record { values : AreBetween l.trues l.first l.number l.values.items; order : l.first ≤ l.number }
