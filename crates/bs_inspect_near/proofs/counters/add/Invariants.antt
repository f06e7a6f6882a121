use Rattle.bs_inspect_near.proofs.CounterLemmas.{AddSo, bit_of}
use Rattle.bs_inspect_near.proofs.counters.add.Given as goal

abbrev pub invariant-digits : goal.invariant-digits
invariant-digits l = AddSo l.initial.digits.items (bit_of l.word) l.j l.digits.items l.carry
