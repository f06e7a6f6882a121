use Rattle.bs_report.proofs.LoggedLemmas.{good_is_valid}
use Rattle.bs_report.proofs.good_law.a_good_report_is_valid.Goals as goal

pub returns : goal.returns
returns c = good_is_valid
