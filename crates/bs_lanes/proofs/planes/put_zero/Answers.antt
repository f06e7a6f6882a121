use Rattle.bs_lanes.proofs.PlaneLemmas.{has_cut_bit}
use Rattle.bs_lanes.proofs.planes.put_zero.Goals as goal

pub returns : goal.returns
returns c = has_cut_bit c.args.words.now c.args.at c.args.low c.requires.word c.requires.low
