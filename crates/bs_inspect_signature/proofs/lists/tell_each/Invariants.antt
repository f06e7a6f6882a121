use Rattle.std.proofs.Common.{◌≡◌, ◌≤◌}
use Rattle.bs_net.specs.Netlist.{circuit}
use Rattle.bs_stim.specs.Runs.{inputs_of}
use Rattle.bs_inspect_signature.proofs.MomentCountLemmas.{TellsSo}
use Rattle.bs_inspect_signature.proofs.lists.tell_each.Given as goal

abbrev pub invariant-moments : goal.invariant-moments
invariant-moments l = record {
  chip : l.chip.recording ≡ l.initial.chip.recording;
  about : l.preimage.circuit ≡ circuit l.net;
  chosen : l.preimage.choice ≡ l.choice;
  calls : l.preimage.calls ≤ l.k;
  so : TellsSo l.aim (circuit l.net) l.choice (inputs_of l.runs) l.counts.items l.spent l.k;
}
