use Rattle.std.proofs.Common.{◌≡◌, take}
use Rattle.bs_preimage.proofs.preimage.copied.Given as goal

abbrev pub invariant-clauses : goal.invariant-clauses
invariant-clauses l = l.all ≡ take l.clause-index l.clauses
