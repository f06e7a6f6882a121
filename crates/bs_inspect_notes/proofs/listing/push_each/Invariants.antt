use Rattle.std.proofs.Common.{◌≡◌, ◌++◌, take}
use Rattle.std.specs.List.{flat_map}
use Rattle.bs_inspect_notes.specs.Listings.{name_piece}
use Rattle.bs_inspect_notes.proofs.listing.push_each.Given as goal

abbrev pub invariant-names : goal.invariant-names
invariant-names l = l.text.items ≡ l.initial.text.items ++ flat_map (λ n. name_piece n.now) (take l.name-index l.names)
