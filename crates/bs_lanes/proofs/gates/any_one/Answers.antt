use Rattle.bs_lanes.proofs.SettlingLemmas.{any_more}
use Rattle.bs_lanes.proofs.gates.any_one.Goals as goal

pub ins-preserved : goal.ins-preserved
ins-preserved g c = any_more g.row.N _ _ _ _ _ _ c.ins-test.true c.ins.invariant c.net_plane-plane.ensures
