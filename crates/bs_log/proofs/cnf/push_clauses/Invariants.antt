use Rattle.std.proofs.Common.{◌≡◌, ◌++◌, take}
use Rattle.std.specs.List.{flat_map}
use Rattle.bs_log.specs.Clauses.{clause_text}
use Rattle.bs_log.proofs.cnf.push_clauses.Given as goal

abbrev pub invariant-clauses : goal.invariant-clauses
invariant-clauses l = l.text.items ≡ l.initial.text.items ++ flat_map clause_text (take l.clause-index l.clauses)
