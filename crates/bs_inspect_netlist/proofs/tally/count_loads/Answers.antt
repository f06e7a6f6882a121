use Rattle.std.proofs.Common.{◌∙◌}
use Rattle.bs_inspect_netlist.proofs.TallyLemmas.{loads_more, bound_flop}
use Rattle.bs_inspect_netlist.proofs.tally.count_loads.Goals as goal

pub flops-preserved : goal.flops-preserved
flops-preserved c = record {
  counts = loads_more _ _ _ c.args.flops.now c.flops.i _ c.flops-test.true c.flops.invariant.counts c.count_load.ensures.counts;
  wide = c.count_load.ensures.wide ∙ c.flops.invariant.wide;
  small = bound_flop c.args.bound c.flops.i _ c.count_load.ensures.small;
}
