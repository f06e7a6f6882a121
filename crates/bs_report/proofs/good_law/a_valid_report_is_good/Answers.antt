use Rattle.bs_report.proofs.GoodLemmas.{valid_is_good}
use Rattle.bs_report.proofs.good_law.a_valid_report_is_good.Goals as goal

pub returns : goal.returns
returns c = valid_is_good
