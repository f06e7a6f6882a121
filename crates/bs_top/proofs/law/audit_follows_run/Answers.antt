use Rattle.bs_top.proofs.PlanLemmas.{audit_follows}
use Rattle.bs_top.proofs.law.audit_follows_run.Goals as goal

pub returns : goal.returns
returns c = audit_follows
