use Rattle.std.proofs.Common.{◌≡◌, ◌++◌, take}
use Rattle.std.specs.List.{flat_map}
use Rattle.bs_top_files.specs.Refusals.{name_piece}
use Rattle.bs_top_files.proofs.refusals.name_words.Given as goal

abbrev pub invariant-names : goal.invariant-names
invariant-names l = l.why.items ≡ l.word ++ flat_map name_piece (take l.name-index l.names)
