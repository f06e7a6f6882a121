use Rattle.bs_lanes.proofs.PairLemmas.{mixed_is}
use Rattle.bs_lanes.proofs.pairs.mixed_plane.Goals as goal

pub returns : goal.returns
returns g c = mixed_is g.row.N _ _ _ _ _ c.requires.a c.requires.b c.requires.both c.requires.one c.requires.inverted
