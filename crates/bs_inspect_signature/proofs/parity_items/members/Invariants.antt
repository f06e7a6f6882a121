use Rattle.std.proofs.Common.{◌≡◌}
use Rattle.bs_inspect_signature.proofs.MixedLemmas.{first_members}
use Rattle.bs_inspect_signature.proofs.parity_items.members.Given as goal

abbrev pub invariant-flops : goal.invariant-flops
invariant-flops l = l.members ≡ first_members l.count l.item l.flop
