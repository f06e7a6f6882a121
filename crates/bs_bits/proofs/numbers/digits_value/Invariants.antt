use Rattle.std.proofs.Common.{◌≡◌, ◌<◌, ◌^◌, drop}
use Rattle.bs_bits.specs.Lines.{number_of}
use Rattle.bs_bits.proofs.NumberLemmas.{after}
use Rattle.bs_bits.proofs.numbers.digits_value.Given as goal

abbrev pub invariant-loop-digit : goal.invariant-loop-digit
invariant-loop-digit l = record {
  small : l.number < 2 ^ 64;
  whole : after l.number (drop l.digit-index l.digits) ≡ number_of l.digits;
}
