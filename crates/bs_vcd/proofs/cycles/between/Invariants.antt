use Rattle.std.proofs.Common.{◌≡◌, take, drop}
use Rattle.bs_vcd.proofs.cycles.between.Given as goal

abbrev pub invariant-lines : goal.invariant-lines
invariant-lines l = l.own ≡ drop l.first (take l.i l.lines)
