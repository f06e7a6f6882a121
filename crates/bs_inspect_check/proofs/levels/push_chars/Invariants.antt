use Rattle.std.proofs.Common.{◌≡◌, ◌++◌, take}
use Rattle.bs_inspect_check.specs.Text.{level_chars}
use Rattle.bs_inspect_check.proofs.levels.push_chars.Given as goal

abbrev pub invariant-places : goal.invariant-places
invariant-places l = l.text.items ≡ l.initial.text.items ++ level_chars l.levels (take l.place-index l.places)
