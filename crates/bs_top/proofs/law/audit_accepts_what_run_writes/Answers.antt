use Rattle.bs_top.proofs.LawLemmas.{audit_accepts}
use Rattle.bs_top.proofs.law.audit_accepts_what_run_writes.Goals as goal

pub returns : goal.returns
returns c = audit_accepts
