use Rattle.std.proofs.Common.{◌≡◌, ◌++◌, take}
use Rattle.std.specs.List.{flat_map}
use Rattle.bs_log.specs.Clauses.{clause_text}
use Rattle.bs_log.specs.Cnf.{units}
use Rattle.bs_log.proofs.cnf.push_units.Given as goal

abbrev pub invariant-literals : goal.invariant-literals
invariant-literals l = l.text.items ≡ l.initial.text.items ++ flat_map clause_text (units (take l.literal-index l.literals))
