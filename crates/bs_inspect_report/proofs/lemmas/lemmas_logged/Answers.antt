use Rattle.std.proofs.Common.{arith}
use Rattle.bs_inspect_report.proofs.LemmaLemmas.{none_left}
use Rattle.bs_inspect_report.proofs.lemmas.lemmas_logged.Goals as goal

pub returns : goal.returns
returns c = none_left c.lines.counts.items c.lines.count c.lines.i c.args.log.now (omega (arith, c.lines-test.false)) c.lines.invariant.rest
