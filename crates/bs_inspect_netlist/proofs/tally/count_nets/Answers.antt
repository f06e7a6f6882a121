use Rattle.std.proofs.Common.{◌∙◌}
use Rattle.bs_inspect_netlist.proofs.TallyLemmas.{nets_more, bound_next}
use Rattle.bs_inspect_netlist.proofs.tally.count_nets.Goals as goal

pub nets-preserved : goal.nets-preserved
nets-preserved c = record {
  counts = nets_more _ _ _ c.args.nets.now c.nets.i _ c.nets-test.true c.nets.invariant.counts c.count_net.ensures.counts;
  wide = c.count_net.ensures.wide ∙ c.nets.invariant.wide;
  small = bound_next c.args.bound c.nets.i _ c.count_net.ensures.small;
}
