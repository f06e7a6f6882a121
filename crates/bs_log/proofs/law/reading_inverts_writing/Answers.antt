use Rattle.bs_log.proofs.RoundTrip.{lines_read_back, texts_are_lines}
use Rattle.bs_log.proofs.law.reading_inverts_writing.Goals as goal

pub returns-clause-back : goal.returns-clause-back
returns-clause-back c = lines_read_back

pub returns-clause-exact : goal.returns-clause-exact
returns-clause-exact c = texts_are_lines
