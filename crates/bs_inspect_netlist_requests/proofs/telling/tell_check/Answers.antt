use Rattle.bs_inspect_netlist_requests.proofs.NetlistLemmas.{check_told}
use Rattle.bs_inspect_netlist_requests.proofs.telling.tell_check.Goals as goal

pub returns : goal.returns
returns c = check_told _ _ _ _ _ c.as_slice-comparisons.ensures.value c.check_status.ensures c.in_ok-text.ensures
