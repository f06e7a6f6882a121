use Rattle.std.proofs.Common.{◌≡◌, ◌++◌, reverse, take}
use Rattle.bs_net.specs.Loops.{up_to}
use Rattle.bs_net.proofs.order.path_to.Given as goal

abbrev pub invariant-loop-i : goal.invariant-loop-i
invariant-loop-i l = l.part ++ up_to l.h (reverse (take l.i l.path)) ≡ up_to l.h (reverse l.path)
