use Rattle.std.proofs.Common.{refl}
use Rattle.bs_inspect_report_requests.proofs.ReportLemmas.{saved_as}
use Rattle.bs_inspect_report_requests.proofs.telling.tell_save.Goals as goal

pub returns : goal.returns
returns c = (refl, saved_as _ _ _ _ _ _ c.len-states.ensures c.in_ok-text.ensures)
