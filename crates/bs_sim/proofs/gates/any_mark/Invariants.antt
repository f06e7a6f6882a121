use Rattle.std.proofs.Common.{◌≡◌, take}
use Rattle.bs_sim.specs.Marks.{any_mark}
use Rattle.bs_sim.proofs.gates.any_mark.Given as goal

abbrev pub invariant-nets : goal.invariant-nets
invariant-nets l = l.any ≡ any_mark l.marks (take l.net-index l.nets)
