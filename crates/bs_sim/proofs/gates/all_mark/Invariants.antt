use Rattle.std.proofs.Common.{◌≡◌, take}
use Rattle.bs_sim.specs.Marks.{all_mark}
use Rattle.bs_sim.proofs.gates.all_mark.Given as goal

abbrev pub invariant-nets : goal.invariant-nets
invariant-nets l = l.all ≡ all_mark l.marks (take l.net-index l.nets)
