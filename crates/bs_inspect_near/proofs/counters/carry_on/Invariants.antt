use Rattle.bs_inspect_near.proofs.CounterLemmas.{AddSo, four_of}
use Rattle.bs_inspect_near.proofs.counters.carry_on.Given as goal

abbrev pub invariant-digits : goal.invariant-digits
invariant-digits l = AddSo l.initial.digits.items (four_of l.word) l.j l.digits.items l.carry
