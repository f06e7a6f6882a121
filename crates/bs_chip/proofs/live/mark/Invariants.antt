use Rattle.bs_stim.specs.Runs.{inputs_of}
use Rattle.bs_chip.proofs.LiveLemmas.{Marked}
use Rattle.bs_chip.proofs.live.mark.Given as goal

abbrev pub invariant-lanes : goal.invariant-lanes
invariant-lanes l = Marked (inputs_of l.runs) l.cycle l.initial.words.items l.words.items l.lane
