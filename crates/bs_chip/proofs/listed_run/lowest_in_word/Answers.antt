use Rattle.std.proofs.Common.{arith}
use Rattle.bs_chip.proofs.LookLemmas.{no_hit, lowest_hit}
use Rattle.bs_chip.proofs.listed_run.lowest_in_word.Goals as goal

pub returns-then-hits-eq0 : goal.returns-then-hits-eq0
returns-then-hits-eq0 g c =
    no_hit c.args.live.now c.args.bank.now c.args.wide c.args.planes.now c.args.word c.word.result c.word_hits-hits.result c.word.ensures
    c.word_hits-hits.ensures
    c.if-hits-eq0.true

pub returns-else-hits-eq0 : goal.returns-else-hits-eq0
returns-else-hits-eq0 g c =
    lowest_hit c.args.live.now c.args.bank.now c.args.wide c.args.planes.now c.args.word c.word.result c.word_hits-hits.result c.word.ensures
    c.word_hits-hits.ensures (omega (arith, c.if-hits-eq0.false)) (omega (arith, c.word_hits-hits.auto))
