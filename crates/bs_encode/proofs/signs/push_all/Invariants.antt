use Rattle.std.proofs.Common.{◌≡◌, ◌++◌, take}
use Rattle.bs_encode.proofs.signs.push_all.Given as goal

abbrev pub invariant-literals : goal.invariant-literals
invariant-literals l = l.into ≡ l.initial.into ++ take l.l-index l.literals
