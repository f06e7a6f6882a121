use Rattle.bs_inspect_near.proofs.ValueLemmas.{lane_one, lane_small}
use Rattle.bs_inspect_near.proofs.values.lowest.Goals as goal

pub returns-clause-small : goal.returns-clause-small
returns-clause-small c = lane_small c.args.left c.requires c.ranges.left.fits

pub returns-clause-one : goal.returns-clause-one
returns-clause-one c = lane_one c.args.left c.requires c.ranges.left.fits
