use Rattle.bs_break.proofs.BankLemmas.{HitsSo}
use Rattle.bs_break.proofs.bank.Bank.hits.Given as goal

abbrev pub invariant-words : goal.invariant-words
invariant-words g l = HitsSo l.self l.wide l.planes l.words l.hits l.word
