use Rattle.std.proofs.Common.{◌≡◌}
use Rattle.bs_inspect_causes.specs.Chains.{places_of}
use Rattle.bs_inspect_causes.proofs.order.places_of.Given as goal

abbrev pub invariant-chains : goal.invariant-chains
invariant-chains l = l.places.items ≡ places_of l.accounts l.chains l.i
