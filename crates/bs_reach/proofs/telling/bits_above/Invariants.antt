use Rattle.std.proofs.Common.{◌≡◌, take}
use Rattle.bs_solve_lemmas.specs.Values.{value_of}
use Rattle.bs_encode.specs.Cycle.{bits_on}
use Rattle.bs_encode.specs.Frame.{raised_all}
use Rattle.bs_reach.proofs.telling.bits_above.Given as goal

abbrev pub invariant-literals : goal.invariant-literals
invariant-literals l = l.bits ≡ bits_on (value_of l.values) (raised_all l.by (take l.literal-index l.literals))
