use Rattle.bs_lanes.proofs.LoadLemmas.{cleared_is}
use Rattle.bs_lanes.proofs.loads.cleared.Goals as goal

pub returns : goal.returns
returns g c = cleared_is g.row.N _ _ _ c.requires.plane c.inverse.ensures
