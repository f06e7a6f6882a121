use Rattle.std.proofs.Common.{◌≡◌, false, get_or, true}
use Rattle.std.specs.Prelude.{All}
use Rattle.bs_preimage_recorded.proofs.groups.groups_of.Given as goal

abbrev pub invariant-groups : goal.invariant-groups
invariant-groups l = All (λ group. All (λ place. get_or l.flags place false ≡ true) group) l.groups
