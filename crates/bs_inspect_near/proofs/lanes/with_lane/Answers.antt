use Rattle.std.proofs.Common.{◌+◌, refl}
use Rattle.bs_net.specs.Netlist.{circuit}
use Rattle.bs_stim.specs.Runs.{inputs_of}
use Rattle.bs_inspect_near.proofs.LaneLemmas.{best_more, made}
use Rattle.bs_inspect_near.proofs.lanes.with_lane.Goals as goal

pub returns-then-is_viewed : goal.returns-then-is_viewed
returns-then-is_viewed c =
    best_more (circuit c.args.net.now) (inputs_of c.args.runs.now) c.args.seen.now c.args.cycle c.args.first c.args.lane c.lane_count-count.result
    c.args.digits.now c.is_viewed.result c.args.best (made (c.args.first + c.args.lane + 1) c.args.cycle c.lane_count-count.result) c.nearer.result
    c.requires.lane c.is_viewed.ensures c.if-is_viewed.true c.requires.counts c.lane_count-count.ensures refl c.nearer.ensures c.requires.best
