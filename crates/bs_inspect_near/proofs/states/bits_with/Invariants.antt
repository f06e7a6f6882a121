use Rattle.bs_inspect_near.proofs.StateLemmas.{WithSo}
use Rattle.bs_inspect_near.proofs.states.bits_with.Given as goal

abbrev pub invariant-places : goal.invariant-places
invariant-places l = WithSo l.seen l.known l.i l.next l.bits
