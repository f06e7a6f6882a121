use Rattle.std.proofs.Common.{◌≡◌, length, drop, map}
use Rattle.bs_net.specs.Circuit.{number}
use Rattle.bs_wave.specs.Deciding.{marked}
use Rattle.bs_wave.proofs.decided.mark_nets.Given as goal

abbrev pub invariant-loop-net : goal.invariant-loop-net
invariant-loop-net l = record {
  wide : length l.table.items ≡ length l.initial.table.items;
  left : marked l.bit l.table.items (map number (drop l.net-index l.nets)) ≡ marked l.bit l.initial.table.items (map number l.nets);
}
