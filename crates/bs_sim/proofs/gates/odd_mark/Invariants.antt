use Rattle.std.proofs.Common.{◌≡◌, take}
use Rattle.bs_sim.specs.Marks.{odd_mark}
use Rattle.bs_sim.proofs.gates.odd_mark.Given as goal

abbrev pub invariant-nets : goal.invariant-nets
invariant-nets l = l.odd ≡ odd_mark l.marks (take l.net-index l.nets)
