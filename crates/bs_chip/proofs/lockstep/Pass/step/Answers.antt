use Rattle.std.proofs.Common.{ap, subst, List, ℕ}
use Rattle.bs_lanes.specs.Lanes.{AreStepped}
use Rattle.bs_chip.specs.Live.{Lasting}
use Rattle.bs_chip.proofs.StepLemmas.{pass_more}
use Rattle.bs_chip.proofs.lockstep.Pass.step.Goals as goal

pub invariant_of-self : goal.invariant_of-self
invariant_of-self c =
    let i = c.self.inside in
    let inputs = c.put_inputs.new.planes.items in
    pass_more i.runs.now i.lanes c.step.new.self i.live c.go_to.new.self i.inputs.items inputs i.at c.wide-wide.result c.self.invariant c.step.ensures.same
    c.wide-wide.ensures c.put_inputs.ensures.size (ap (λ (l : Lasting). l.runs) c.go_to.ensures) c.put_inputs.ensures.inputs
    (subst (λ (ws : List ℕ). AreStepped i.lanes c.step.new.self ws) c.as_slice.ensures.value c.step.ensures.stepped) c.flops-planes.ensures.size
