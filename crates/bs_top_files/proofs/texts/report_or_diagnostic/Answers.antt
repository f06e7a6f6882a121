use Rattle.bs_report.proofs.SpelledLemmas.{texts_are_reports}
use Rattle.bs_top_files.proofs.texts.report_or_diagnostic.Goals as goal

pub returns-in-Ok-clause-steps : goal.returns-in-Ok-clause-steps
returns-in-Ok-clause-steps c = (texts_are_reports _ _ c.in-Ok.ensures).0.max_steps

pub returns-in-Ok-clause-more : goal.returns-in-Ok-clause-more
returns-in-Ok-clause-more c = (texts_are_reports _ _ c.in-Ok.ensures).0.one_state_more
