use Rattle.std.proofs.Common.{◌*◌}
use Rattle.bs_chip.specs.Lockstep.{NoneHits}
use Rattle.bs_chip.proofs.listed_run.lowest_run.Given as goal

abbrev pub invariant-words : goal.invariant-words
invariant-words g l = NoneHits l.live l.bank l.wide l.planes 0 (l.word * 64)
