use Rattle.std.proofs.Common.{◌≡◌, ◌++◌}
use Rattle.std.specs.List.{flat_map}
use Rattle.bs_log.specs.Clauses.{clause_text, closed_from}
use Rattle.bs_log.proofs.clauses.push_closed.Given as goal

abbrev pub invariant-steps : goal.invariant-steps
invariant-steps l = l.text.items ≡ l.initial.text.items ++ flat_map clause_text (closed_from l.vars l.first l.i)
