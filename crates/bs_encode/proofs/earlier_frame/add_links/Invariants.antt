use Rattle.std.proofs.Common.{◌≡◌, ◌++◌, take}
use Rattle.bs_encode.specs.Frame.{links, under}
use Rattle.bs_encode.proofs.earlier_frame.add_links.Given as goal

abbrev pub invariant-places : goal.invariant-places
invariant-places l = l.into ≡ l.initial.into ++ under l.fn.l (links (take l.i l.next) (take l.i l.states))
