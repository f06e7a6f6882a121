use Rattle.bs_lanes.proofs.PlaneLemmas.{lane_more}
use Rattle.std.proofs.Common.{Bool, ◌∙◌, ap, ◌∷◌, [], ◌++◌, sym}
use Rattle.bs_lanes.specs.Planes.{lane}
use Rattle.bs_lanes.proofs.lanes.lane_bits.Goals as goal

pub planes-preserved : goal.planes-preserved
planes-preserved c =
    c.in_ok-push.ensures.ok ∙ (ap (λ bs. bs ++ c.lane_bit.result ∷ []) c.planes.invariant ∙
    (ap (λ (b : Bool). lane c.args.wide c.planes.plane c.args.words.now c.args.r ++ b ∷ []) c.lane_bit.ensures ∙
    sym (lane_more c.args.wide c.planes.plane c.args.words.now c.args.r)))
