use Rattle.std.proofs.Common.{ap, ◌∙◌, ◌+◌, drop}
use Rattle.std.specs.List.{flat_map}
use Rattle.bs_net.specs.declared.net.Gate.{Gate}
use Rattle.bs_net.specs.Tallies.{tallied}
use Rattle.bs_net.proofs.TallyLemmas.{inputs_more}
use Rattle.bs_net.proofs.tallies.count_inputs.Goals as goal

pub loop-gate-preserved : goal.loop-gate-preserved
loop-gate-preserved c =
    record {
      wide = c.count_nets.ensures.wide ∙ c.loop-gate.invariant.wide;
      left =
          ap (λ t. tallied t (flat_map (λ (g : Gate). g.ins) (drop (c.loop-gate.gate-index + 1) c.args.gates.now)))
          (c.count_nets.ensures.counts
          ∙ (ap (tallied c.loop-gate.table.items) c.slice.ensures
          ∙ ap (λ (g : Gate). tallied c.loop-gate.table.items g.ins) c.gate-item.is))
          ∙ (inputs_more c.loop-gate.table.items c.args.gates.now c.loop-gate.gate-index c.gate-item.result c.loop-gate-test.true
          ∙ c.loop-gate.invariant.left);
    }
