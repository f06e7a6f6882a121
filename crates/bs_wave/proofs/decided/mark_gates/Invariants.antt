use Rattle.std.proofs.Common.{◌≡◌, length, drop, map, false}
use Rattle.bs_net.specs.declared.net.Gate.{Gate}
use Rattle.bs_wave.specs.Deciding.{marked}
use Rattle.bs_wave.proofs.decided.mark_gates.Given as goal

abbrev pub invariant-loop-gate : goal.invariant-loop-gate
invariant-loop-gate l = record {
  wide : length l.table.items ≡ length l.initial.table.items;
  left : marked false l.table.items (map (λ (g : Gate). g.out.0) (drop l.gate-index l.gates))
      ≡ marked false l.initial.table.items (map (λ (g : Gate). g.out.0) l.gates);
}
