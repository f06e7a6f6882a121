use Rattle.std.proofs.Common.{◌≡◌}
use Rattle.bs_net.specs.Netlist.{circuit}
use Rattle.bs_inspect_report_texts.proofs.LeadLemmas.{LeadBefore}
use Rattle.bs_inspect_report_texts.proofs.leading.first_break.Given as goal

abbrev pub invariant-moments : goal.invariant-moments
invariant-moments l = record {
  net : l.sim.net ≡ l.net;
  so_far : LeadBefore (circuit l.net) l.states l.inputs l.i;
}
