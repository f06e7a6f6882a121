use Rattle.std.proofs.Common.{◌∙◌, ◌*◌, ◌≤◌, ap, ap₂, sym, subst, length}
use Rattle.bs_net.specs.Netlist.{Checked, circuit}
use Rattle.bs_stim.specs.Runs.{inputs_of}
use Rattle.bs_chip.specs.Live.{Lasting}
use Rattle.bs_chip.proofs.StepLemmas.{pass_first}
use Rattle.bs_chip.proofs.lockstep.Pass.new.Goals as goal

pub invariant_of-result : goal.invariant_of-result
invariant_of-result c =
    let s = c.args.runs.now in
    let width = c.requires ∙ ap (λ (net : Checked). length (circuit net).inputs) (sym c.in_ok-lanes.ensures.net) in
    pass_first s c.in_ok-lanes.lanes c.in_ok-live.live c.in_ok-inputs.inputs.items c.count-count.ensures.sound width
    (c.in_ok-lanes.ensures.wide ∙ c.wide_for-wide.ensures.value)
    (subst (λ n. length (inputs_of s) ≤ 64 * n) c.wide_for-wide.ensures.value c.wide_for-wide.ensures.room)
    (c.in_ok-inputs.ensures ∙ ap₂ (λ a b. a * b) (c.width.ensures ∙ width) c.wide_for-wide.ensures.value)
    (ap (λ (l : Lasting). l.runs) c.in_ok-live.ensures) c.in_ok-lanes.ensures.reset c.flops-planes.ensures.size
