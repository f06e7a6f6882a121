use Rattle.bs_net.specs.declared.net.NetId.{NetId}
use Rattle.bs_wave.specs.Wave.{value_at}
use Rattle.bs_wave.specs.WayIn.{bit_in}
use Rattle.bs_wave.proofs.AllLemmas.{Left}
use Rattle.bs_wave.proofs.tracing.bits_on.Given as goal

abbrev pub invariant-nets : goal.invariant-nets
invariant-nets l = Left (λ (n : NetId). bit_in (value_at l.values n.0)) l.nets l.i l.bits
