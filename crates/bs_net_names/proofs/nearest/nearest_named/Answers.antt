use Rattle.bs_net_names.proofs.NearestLemmas.{all_below}
use Rattle.bs_net_names.proofs.nearest.nearest_named.Goals as goal

pub returns : goal.returns
returns c = all_below _ _ _ c.in_ok-flops.ensures
