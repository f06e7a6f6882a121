use Rattle.bs_stim.specs.Runs.{inputs_of}
use Rattle.bs_chip.proofs.LiveLemmas.{LastSo}
use Rattle.bs_chip.proofs.live.next_end.Given as goal

abbrev pub invariant-lanes : goal.invariant-lanes
invariant-lanes l = LastSo (inputs_of l.runs) l.cycle l.end l.lane
