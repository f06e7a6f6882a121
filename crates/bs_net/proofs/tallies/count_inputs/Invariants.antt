use Rattle.std.proofs.Common.{◌≡◌, length, drop}
use Rattle.std.specs.List.{flat_map}
use Rattle.bs_net.specs.declared.net.Gate.{Gate}
use Rattle.bs_net.specs.Tallies.{tallied}
use Rattle.bs_net.proofs.tallies.count_inputs.Given as goal

abbrev pub invariant-loop-gate : goal.invariant-loop-gate
invariant-loop-gate l = record {
  wide : length l.table.items ≡ length l.initial.table.items;
  left : tallied l.table.items (flat_map (λ (g : Gate). g.ins) (drop l.gate-index l.gates)) ≡ tallied l.initial.table.items
      (flat_map (λ (g : Gate). g.ins) l.gates);
}
