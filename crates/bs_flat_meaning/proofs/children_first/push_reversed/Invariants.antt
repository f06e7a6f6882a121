use Rattle.std.proofs.Common.{◌≡◌, ◌++◌, reverse, take}
use Rattle.bs_flat_meaning.proofs.children_first.push_reversed.Given as goal

abbrev pub invariant-numbers : goal.invariant-numbers
invariant-numbers l = l.ring ++ reverse (take l.i l.numbers) ≡ l.initial.ring ++ reverse l.numbers
