use Rattle.std.proofs.Common.{◌≡◌, take}
use Rattle.bs_inspect_why_words.specs.Facts.{fact_bits}
use Rattle.bs_inspect_why_words.proofs.key.fact_bits.Given as goal

abbrev pub invariant-facts : goal.invariant-facts
invariant-facts l = l.bits ≡ fact_bits (take l.fact-index l.facts)
