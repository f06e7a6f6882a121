use Rattle.std.proofs.Common.{◌≡◌, ◌++◌, take}
use Rattle.bs_flat_connect.proofs.copies.add_gates.Given as goal

abbrev pub invariant-gates : goal.invariant-gates
invariant-gates l = l.all ≡ l.initial.all ++ take l.one-index l.from
