use Rattle.std.proofs.Common.{◌≡◌, length, drop, map}
use Rattle.bs_net.specs.declared.net.Flop.{Flop}
use Rattle.bs_net.specs.Tallies.{tallied}
use Rattle.bs_net.proofs.tallies.count_clocks.Given as goal

abbrev pub invariant-loop-flop : goal.invariant-loop-flop
invariant-loop-flop l = record {
  wide : length l.table.items ≡ length l.initial.table.items;
  left : tallied l.table.items (map (λ (f : Flop). f.ck) (drop l.flop-index l.flops)) ≡ tallied l.initial.table.items (map (λ (f : Flop). f.ck) l.flops);
}
