use Rattle.std.proofs.Common.{◌≡◌, length, drop}
use Rattle.bs_net.specs.Tallies.{tallied}
use Rattle.bs_net.proofs.tallies.count_nets.Given as goal

abbrev pub invariant-loop-net : goal.invariant-loop-net
invariant-loop-net l = record {
  wide : length l.table.items ≡ length l.initial.table.items;
  left : tallied l.table.items (drop l.net-index l.nets) ≡ tallied l.initial.table.items l.nets;
}
