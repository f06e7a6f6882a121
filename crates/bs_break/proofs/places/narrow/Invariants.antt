use Rattle.bs_break.proofs.PlaceLemmas.{Narrowed}
use Rattle.bs_break.proofs.places.narrow.Given as goal

abbrev pub invariant-places : goal.invariant-places
invariant-places l = Narrowed l.initial.flags.items l.flags.items l.first l.other l.i
