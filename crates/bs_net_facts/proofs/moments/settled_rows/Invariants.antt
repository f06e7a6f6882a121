use Rattle.std.proofs.Common.{◌≡◌}
use Rattle.bs_net.specs.Netlist.{circuit}
use Rattle.bs_net_facts.specs.Seen.{RowsFit}
use Rattle.bs_net_facts.proofs.moments.settled_rows.Given as goal

abbrev pub invariant-moments : goal.invariant-moments
invariant-moments l = record {
  same : l.sim.net ≡ l.net;
  so_far : RowsFit (circuit l.net) l.states l.inputs l.i l.rows;
}
