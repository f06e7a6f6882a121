use Rattle.std.proofs.Common.{◌≡◌, ◌++◌, length}
use Rattle.std.specs.List.{flat_map}
use Rattle.bs_inspect_view.specs.Scopes.{parts_of, scope_piece}
use Rattle.bs_inspect_view.proofs.scopes.push_parts.Given as goal

abbrev pub invariant-parts : goal.invariant-parts
invariant-parts l =
    l.text.items ++ flat_map (scope_piece l.opens) (parts_of l.rest) ≡ l.initial.text.items ++ flat_map (scope_piece l.opens) (parts_of l.path)

abbrev pub decreases-parts : goal.decreases-parts
decreases-parts l = length (parts_of l.rest)
