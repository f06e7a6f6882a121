use Rattle.std.proofs.Common.{◌≡◌, ◌++◌, take}
use Rattle.bs_encode.specs.Frame.{links}
use Rattle.bs_reach_unrolled.proofs.links.add_links.Given as goal

abbrev pub invariant-places : goal.invariant-places
invariant-places l = l.into ≡ l.initial.into ++ links (take l.i l.next) (take l.i l.states)
