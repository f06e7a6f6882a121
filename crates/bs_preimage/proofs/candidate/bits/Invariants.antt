use Rattle.std.proofs.Common.{◌≡◌, take}
use Rattle.bs_solve_lemmas.specs.Values.{value_of}
use Rattle.bs_encode.specs.Cycle.{bits_on}
use Rattle.bs_preimage.proofs.candidate.bits.Given as goal

abbrev pub invariant-literals : goal.invariant-literals
invariant-literals l = l.bits ≡ bits_on (value_of l.values) (take l.literal-index l.literals)
