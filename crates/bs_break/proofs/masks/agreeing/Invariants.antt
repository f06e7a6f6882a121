use Rattle.std.proofs.Common.{drop}
use Rattle.bs_break.proofs.MaskLemmas.{Leaves}
use Rattle.bs_break.proofs.masks.agreeing.Given as goal

abbrev pub invariant-places : goal.invariant-places
invariant-places l = Leaves l.wide l.planes l.word l.places (drop l.i l.places) l.state l.mask l.left
