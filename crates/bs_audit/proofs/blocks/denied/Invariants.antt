use Rattle.std.proofs.Common.{◌≡◌, take}
use Rattle.bs_audit.proofs.BlockLemmas.{negated_bits}
use Rattle.bs_audit.proofs.blocks.denied.Given as goal

abbrev pub invariant-literals : goal.invariant-literals
invariant-literals l = l.bits ≡ negated_bits (take l.literal-index l.literals)
