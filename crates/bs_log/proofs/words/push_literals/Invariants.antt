use Rattle.std.proofs.Common.{◌≡◌, ◌++◌, take}
use Rattle.std.specs.List.{flat_map}
use Rattle.bs_log.specs.LineText.{literal_text}
use Rattle.bs_log.proofs.words.push_literals.Given as goal

abbrev pub invariant-literals : goal.invariant-literals
invariant-literals l = l.text.items ≡ l.initial.text.items ++ flat_map literal_text (take l.literal-index l.literals)
