use Rattle.bs_scan.proofs.TextLemmas.{seen_again, seen_exact}
use Rattle.bs_scan.proofs.seen_law.seen_texts_read_back.Goals as goal

pub returns-clause-back : goal.returns-clause-back
returns-clause-back c = seen_again

pub returns-clause-exact : goal.returns-clause-exact
returns-clause-exact c = seen_exact
