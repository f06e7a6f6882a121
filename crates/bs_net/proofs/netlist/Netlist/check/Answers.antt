use Rattle.bs_net.specs.Netlist.{parts_of}
use Rattle.bs_net.proofs.CallerLemmas.{raw_is_placed}
use Rattle.bs_net.proofs.CheckedLemmas.{passes_checked, passes_bounded}
use Rattle.bs_net.proofs.netlist.Netlist.check.Goals as goal

pub examine-requires : goal.examine-requires
examine-requires c = raw_is_placed c.args.raw

pub invariant_of-result : goal.invariant_of-result
invariant_of-result c =
    let passes = c.in-Ok.ensures.ok.0 in
    let found = c.in-Ok.ensures.ok.1 in
    let placed = raw_is_placed c.args.raw in
    record {
      clock = found.clock;
      inputs = found.inputs;
      reset = found.reset;
      placed = placed;
      checked = passes_checked (parts_of c.args.raw) placed passes;
      bounded = passes_bounded (parts_of c.args.raw) placed passes;
      ordered = found.ordered;
    }
