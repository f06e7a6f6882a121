use Rattle.std.proofs.Common.{arith}
use Rattle.bs_break.proofs.BankLemmas.{no_words_so, one_more_so, all_so}
use Rattle.bs_break.proofs.bank.Bank.hits.Goals as goal

pub words-init : goal.words-init
words-init g c = no_words_so _ _ _ _

pub words-preserved : goal.words-preserved
words-preserved g c = one_more_so _ _ _ _ _ c.words.word _ (omega (arith, c.words-test.true, c.requires.wide)) c.words.invariant c.word_hits.ensures

pub returns : goal.returns
returns g c = all_so _ _ _ _ _ c.words.word c.words-test.false (omega (arith, c.words.auto.word-end)) c.words.invariant
