use Rattle.bs_flat_connect.proofs.LoopLemmas.{JoinsSoFar}
use Rattle.bs_flat_connect.proofs.joining.join.Given as goal

abbrev pub invariant-each : goal.invariant-each
invariant-each l = JoinsSoFar l.table l.wiring l.matched l.one-index l.runs
