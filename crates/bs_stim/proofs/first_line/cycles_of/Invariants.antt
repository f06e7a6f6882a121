use Rattle.std.proofs.Common.{◌≡◌, ◌+◌, min, take}
use Rattle.bs_bits.specs.Lines.{number_of}
use Rattle.bs_stim.specs.declared.limits.TheConstants.{MAX_CYCLES}
use Rattle.bs_stim.proofs.first_line.cycles_of.Given as goal

abbrev pub invariant-digits : goal.invariant-digits
invariant-digits l = l.cycles ≡ min (MAX_CYCLES + 1) (number_of (take l.digit-index l.digits))
