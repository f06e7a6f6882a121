use Rattle.std.proofs.Common.{◌≡◌, ◌++◌}
use Rattle.bs_encode.proofs.earlier_frame.append.Given as goal

abbrev pub invariant-clauses : goal.invariant-clauses
invariant-clauses l = l.into ++ l.clause-iterator.rest.items ≡ l.initial.into ++ l.fn.more
