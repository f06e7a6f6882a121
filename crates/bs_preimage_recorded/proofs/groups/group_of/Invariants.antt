use Rattle.std.proofs.Common.{◌≡◌, false, get_or, true}
use Rattle.std.specs.Prelude.{All}
use Rattle.bs_preimage_recorded.proofs.groups.group_of.Given as goal

abbrev pub invariant-places : goal.invariant-places
invariant-places l = All (λ place. get_or l.flags place false ≡ true) l.places
