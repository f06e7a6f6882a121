use Rattle.bs_lanes.proofs.LoadLemmas.{chosen_is}
use Rattle.bs_lanes.proofs.loads.chosen.Goals as goal

pub returns : goal.returns
returns g c = chosen_is g.row.N _ _ _ _ c.requires.choice c.requires.one c.requires.zero c.inverse.ensures
