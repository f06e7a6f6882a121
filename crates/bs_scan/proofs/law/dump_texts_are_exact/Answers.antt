use Rattle.bs_scan.proofs.DumpReadLemmas.{dump_texts_are_exact}
use Rattle.bs_scan.proofs.law.dump_texts_are_exact.Goals as goal

pub returns : goal.returns
returns c = dump_texts_are_exact
