use Rattle.std.proofs.Common.{◌≡◌, ◌++◌, length}
use Rattle.std.specs.List.{flat_map}
use Rattle.bs_inspect_view.specs.Save.{scope_word}
use Rattle.bs_inspect_view.specs.Scopes.{parts_of}
use Rattle.bs_inspect_view.proofs.save.push_scope_words.Given as goal

abbrev pub invariant-parts : goal.invariant-parts
invariant-parts l = l.text.items ++ flat_map scope_word (parts_of l.rest) ≡ l.initial.text.items ++ flat_map scope_word (parts_of l.path)

abbrev pub decreases-parts : goal.decreases-parts
decreases-parts l = length (parts_of l.rest)
