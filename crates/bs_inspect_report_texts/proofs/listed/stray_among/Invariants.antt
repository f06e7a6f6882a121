use Rattle.std.proofs.Common.{◌≡◌}
use Rattle.bs_net.specs.Netlist.{circuit}
use Rattle.bs_inspect_report_texts.proofs.ListedLemmas.{LeadBefore}
use Rattle.bs_inspect_report_texts.proofs.listed.stray_among.Given as goal

abbrev pub invariant-cands : goal.invariant-cands
invariant-cands l = record {
  net : l.sim.net ≡ l.net;
  so_far : LeadBefore (circuit l.net) l.present l.cands l.i;
}
