use Rattle.std.proofs.Common.{◌∙◌, ap, length}
use Rattle.bs_net.specs.Netlist.{circuit}
use Rattle.bs_preimage_recorded.proofs.ForwardLemmas.{holds_groups}
use Rattle.bs_preimage_recorded.proofs.held.HeldInput.new.Goals as goal

pub invariant_of-result : goal.invariant_of-result
invariant_of-result c =
    holds_groups (circuit c.args.net.now) (circuit c.in_ok-lanes.lanes.net) c.args.wide c.in_ok-lanes.lanes.wide c.args.input c.args.value
    c.in_ok-groups.groups c.in_ok-inputs.inputs.words c.state_width-width.result c.len.result (ap circuit c.in_ok-lanes.ensures.net)
    c.in_ok-lanes.ensures.wide c.requires.some c.requires.few c.state_width-width.ensures (c.len.ensures ∙ ap length c.data_inputs.ensures)
    c.in_ok-inputs.ensures.size c.in_ok-inputs.ensures.held c.in_ok-groups.ensures
