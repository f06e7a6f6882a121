use Rattle.std.proofs.Common.{◌∙◌, length, ap, sym}
use Rattle.bs_net.specs.Netlist.{Checked, circuit}
use Rattle.bs_lanes.proofs.PlaneLemmas.{length_lane}
use Rattle.bs_chip.proofs.run_simulator.Player.enter.Goals as goal

pub load-requires : goal.load-requires
load-requires c =
    ap length c.read_lane.ensures
    ∙ (length_lane c.wide_for-wide.result (length c.self.inside.entered) c.args.planes.now _
    ∙ (c.self.invariant.3 ∙ ap (λ (net : Checked). length (circuit net).flops) (sym c.self.invariant.0)))

pub invariant_of-self : goal.invariant_of-self
invariant_of-self c = (
  c.load.ensures.net ∙ c.self.invariant.0,
  c.self.invariant.1,
  c.self.invariant.2,
  ap length c.read_lane.ensures ∙ (length_lane c.wide_for-wide.result (length c.self.inside.entered) c.args.planes.now _ ∙ c.self.invariant.3),
)
