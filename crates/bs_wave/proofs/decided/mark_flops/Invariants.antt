use Rattle.std.proofs.Common.{◌≡◌, length, drop, map, true}
use Rattle.bs_net.specs.declared.net.Flop.{Flop}
use Rattle.bs_net.specs.Circuit.{number}
use Rattle.bs_wave.specs.Deciding.{marked}
use Rattle.bs_wave.proofs.decided.mark_flops.Given as goal

abbrev pub invariant-loop-flop : goal.invariant-loop-flop
invariant-loop-flop l = record {
  wide : length l.table.items ≡ length l.initial.table.items;
  left : marked true l.table.items (map number (map (λ (f : Flop). f.q) (drop l.flop-index l.flops)))
      ≡ marked true l.initial.table.items (map number (map (λ (f : Flop). f.q) l.flops));
}
