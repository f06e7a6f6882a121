use Rattle.bs_inspect_signature.proofs.EnoughLemmas.{AreTooFew}
use Rattle.bs_inspect_signature.proofs.enough.first_enough.Given as goal

abbrev pub invariant-numbers : goal.invariant-numbers
invariant-numbers l = AreTooFew l.net.raw l.runs l.numbers l.i l.answer
