use Rattle.std.proofs.Common.{length}
use Rattle.bs_flat_meaning.proofs.PlaceLemmas.{ArePlacesOf}
use Rattle.bs_flat_meaning.proofs.places.places.Given as goal

abbrev pub invariant-ids : goal.invariant-ids
invariant-ids l = ArePlacesOf l.ids l.table.items (length l.initial.table.items) l.place
