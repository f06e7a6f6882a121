use Rattle.bs_report.proofs.ReadBackLemmas.{read_back}
use Rattle.bs_report.proofs.SpelledLemmas.{texts_are_reports}
use Rattle.bs_report.proofs.law.reports_read_back.Goals as goal

pub returns-clause-back : goal.returns-clause-back
returns-clause-back c = read_back

pub returns-clause-exact : goal.returns-clause-exact
returns-clause-exact c = texts_are_reports
