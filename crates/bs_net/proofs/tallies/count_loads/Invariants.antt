use Rattle.std.proofs.Common.{◌≡◌, length, drop}
use Rattle.std.specs.List.{flat_map}
use Rattle.bs_net.specs.Parts.{load_nets}
use Rattle.bs_net.specs.Tallies.{tallied}
use Rattle.bs_net.proofs.tallies.count_loads.Given as goal

abbrev pub invariant-loop-flop : goal.invariant-loop-flop
invariant-loop-flop l = record {
  wide : length l.table.items ≡ length l.initial.table.items;
  left : tallied l.table.items (flat_map load_nets (drop l.flop-index l.flops)) ≡ tallied l.initial.table.items (flat_map load_nets l.flops);
}
