use Rattle.std.proofs.Common.{map, take, get_or, []}
use Rattle.bs_break.proofs.PlaceLemmas.{AreShared}
use Rattle.bs_break.proofs.places.shared_flags.Given as goal

abbrev pub invariant-states : goal.invariant-states
invariant-states g l =
    AreShared l.flags.items l.width (get_or (map g.S.HasState.shown l.states) 0 []) (map g.S.HasState.shown (take l.i l.states))
