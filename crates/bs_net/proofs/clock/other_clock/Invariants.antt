use Rattle.std.proofs.Common.{◌≡◌, drop, nat_eq, not}
use Rattle.std.specs.Prelude.{find}
use Rattle.bs_net.specs.declared.net.Flop.{Flop}
use Rattle.bs_net.proofs.clock.other_clock.Given as goal

abbrev pub invariant-loop-flop : goal.invariant-loop-flop
invariant-loop-flop l = find (λ (f : Flop). not (nat_eq f.ck.0 l.clock.0)) (drop l.flop-index l.flops) ≡ find
    (λ (f : Flop). not (nat_eq f.ck.0 l.clock.0)) l.flops
