use Rattle.std.proofs.Common.{◌≡◌, length, drop, nat_lt}
use Rattle.std.specs.Prelude.{find}
use Rattle.bs_net.specs.declared.net.Gate.{Gate}
use Rattle.bs_net.proofs.sizes.wide_gate.Given as goal

abbrev pub invariant-loop-gate : goal.invariant-loop-gate
invariant-loop-gate l = find (λ (g : Gate). nat_lt 64 (length g.ins)) (drop l.gate-index l.gates) ≡ find (λ (g : Gate). nat_lt 64 (length g.ins)) l.gates
