use Rattle.bs_inspect_near.proofs.CounterLemmas.{ReadSo}
use Rattle.bs_inspect_near.proofs.counters.lane_count.Given as goal

abbrev pub invariant-digits : goal.invariant-digits
invariant-digits l = ReadSo l.digits l.lane l.k l.number
