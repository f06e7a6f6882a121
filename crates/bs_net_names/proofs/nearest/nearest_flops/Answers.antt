use Rattle.std.proofs.Common.{sym}
use Rattle.bs_net_names.proofs.nearest.nearest_flops.Goals as goal

pub returns : goal.returns
returns c = rw (sym c.in_ok-rtl.ensures, sym c.deref.ensures.value) c.in_ok-flops.ensures
