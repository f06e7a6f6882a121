use Rattle.bs_log.proofs.RoundTrip.{reading_is_exact}
use Rattle.bs_log.proofs.line.Line.read.Goals as goal

pub returns-clause-exact : goal.returns-clause-exact
returns-clause-exact c = reading_is_exact c.args.text.now c.read_line.result c.read_line.ensures
