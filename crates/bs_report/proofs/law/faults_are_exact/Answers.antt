use Rattle.bs_report.proofs.FaultLemmas.{wrong_lines, short_texts, extra_bytes}
use Rattle.bs_report.proofs.law.faults_are_exact.Goals as goal

pub returns-clause-line : goal.returns-clause-line
returns-clause-line c = wrong_lines

pub returns-clause-short : goal.returns-clause-short
returns-clause-short c = short_texts

pub returns-clause-extra : goal.returns-clause-extra
returns-clause-extra c = extra_bytes
