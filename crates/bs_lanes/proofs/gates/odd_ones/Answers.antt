use Rattle.bs_lanes.proofs.SettlingLemmas.{odd_next}
use Rattle.bs_lanes.proofs.gates.odd_ones.Goals as goal

pub ins-preserved : goal.ins-preserved
ins-preserved g c = odd_next g.row.N _ _ _ _ _ _ c.ins-test.true c.ins.invariant c.net_plane-plane.ensures
