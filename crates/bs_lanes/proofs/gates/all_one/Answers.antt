use Rattle.bs_lanes.proofs.PlaneLemmas.{ones_is_plane}
use Rattle.bs_lanes.proofs.SettlingLemmas.{all_more}
use Rattle.bs_lanes.proofs.gates.all_one.Goals as goal

pub ins-init : goal.ins-init
ins-init g c = ones_is_plane g.row.N

pub ins-preserved : goal.ins-preserved
ins-preserved g c = all_more g.row.N _ _ _ _ _ _ c.ins-test.true c.ins.invariant c.net_plane-plane.ensures
