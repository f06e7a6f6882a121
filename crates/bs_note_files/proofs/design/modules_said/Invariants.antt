use Rattle.std.proofs.Common.{◌≡◌, ◌++◌, codes, take}
use Rattle.std.specs.List.{flat_map}
use Rattle.bs_note_files.specs.Designs.{name_piece}
use Rattle.bs_note_files.proofs.design.modules_said.Given as goal

abbrev pub invariant-names : goal.invariant-names
invariant-names l = l.said.items ≡ codes "modules instance one another in a ring:" ++ flat_map name_piece (take l.name-index l.named)
