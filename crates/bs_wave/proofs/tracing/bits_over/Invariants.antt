use Rattle.std.proofs.Common.{take}
use Rattle.bs_wave.specs.WayIn.{bits_on}
use Rattle.bs_wave.proofs.AllLemmas.{Left}
use Rattle.bs_wave.proofs.tracing.bits_over.Given as goal

abbrev pub invariant-moments : goal.invariant-moments
invariant-moments l = Left (bits_on l.nets) (take l.count l.moments) l.i l.all
