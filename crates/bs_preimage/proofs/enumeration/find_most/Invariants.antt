use Rattle.std.proofs.Common.{◌-◌, length}
use Rattle.bs_preimage.proofs.FindingLemmas.{IsBelowLast}
use Rattle.bs_preimage.proofs.enumeration.find_most.Given as goal

abbrev pub invariant-turns : goal.invariant-turns
invariant-turns l = IsBelowLast l.encoding l.assumptions l.k l.b l.initial.solver l.solver l.found.items

abbrev pub decreases-turns : goal.decreases-turns
decreases-turns l = l.k - length l.found.items
