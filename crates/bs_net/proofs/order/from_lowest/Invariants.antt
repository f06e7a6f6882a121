use Rattle.std.proofs.Common.{◌≡◌, ◌++◌, take, drop}
use Rattle.bs_net.proofs.order.from_lowest.Given as goal

abbrev pub invariant-loop-i : goal.invariant-loop-i
invariant-loop-i l = l.turned ++ drop l.i l.numbers ≡ drop l.low l.numbers

abbrev pub invariant-loop-i-2 : goal.invariant-loop-i-2
invariant-loop-i-2 l = l.turned ≡ drop l.low l.numbers ++ take l.i l.numbers
