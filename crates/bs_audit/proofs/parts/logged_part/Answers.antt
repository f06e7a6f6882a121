use Rattle.std.proofs.Common.{◌∙◌, sym}
use Rattle.bs_audit.specs.Logged.{basis_with}
use Rattle.bs_audit.proofs.WholeLemmas.{log_refused, log_accepted}
use Rattle.bs_audit.proofs.parts.logged_part.Goals as goal

pub returns-in-Some : goal.returns-in-Some
returns-in-Some c =
    log_refused (basis_with c.args.encoding.now c.args.assumptions.now) c.args.report.now c.in-Some.part (sym c.in-Some.is ∙ c.in_ok-part.ensures)

pub returns-in-None : goal.returns-in-None
returns-in-None c =
    log_accepted (basis_with c.args.encoding.now c.args.assumptions.now) c.args.report.now c.wrong_log.result
    (sym c.in-None.is ∙ c.in_ok-part.ensures) c.wrong_log.ensures
