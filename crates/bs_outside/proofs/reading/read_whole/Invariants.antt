use Rattle.bs_outside.proofs.ReadLemmas.{IsReading}
use Rattle.bs_outside.proofs.reading.read_whole.Given as goal

abbrev pub invariant-loop-count : goal.invariant-loop-count
invariant-loop-count g l = IsReading l.limit l.left (g.R.Read.remaining l.initial.reader) (g.R.Read.remaining l.reader) l.initial.into.items l.into.items

abbrev pub decreases-loop-count : goal.decreases-loop-count
decreases-loop-count g l = l.left
