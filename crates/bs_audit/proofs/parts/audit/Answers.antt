use Rattle.std.proofs.Common.{◌∙◌, sym}
use Rattle.bs_audit.proofs.parts.audit.Goals as goal

pub returns-clause-good : goal.returns-clause-good
returns-clause-good c accepted =
    c.valid_reports_are_good.ensures c.args.dump.now c.args.report.now c.requires.dump
    (sym c.in_ok-part.ensures ∙ (sym c.finding_of.ensures ∙ accepted))
