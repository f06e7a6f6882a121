use Rattle.std.proofs.Common.{map, take}
use Rattle.bs_break.specs.Masks.{IsUnion}
use Rattle.bs_break.proofs.masks.agreeing_with_one.Given as goal

abbrev pub invariant-states : goal.invariant-states
invariant-states g l = IsUnion l.wide l.planes l.word l.places (map g.S.HasState.shown (take l.i l.states)) l.mask l.hits
