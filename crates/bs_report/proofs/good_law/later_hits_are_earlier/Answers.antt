use Rattle.bs_report.proofs.ProgressLemmas.{progress}
use Rattle.bs_report.proofs.good_law.later_hits_are_earlier.Goals as goal

pub returns : goal.returns
returns c = progress
