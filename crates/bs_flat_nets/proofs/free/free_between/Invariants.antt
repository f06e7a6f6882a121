use Rattle.std.proofs.Common.{take}
use Rattle.bs_flat_nets.proofs.GapLemmas.{IsLeft}
use Rattle.bs_flat_nets.proofs.free.free_between.Given as goal

abbrev pub invariant-runs : goal.invariant-runs
invariant-runs l = IsLeft (take l.run-index l.runs) l.next l.nets
