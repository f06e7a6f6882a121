use Rattle.std.proofs.Common.{◌≡◌, get_or, false}
use Rattle.std.specs.Prelude.{filter}
use Rattle.std.specs.Bool.{beq}
use Rattle.std.specs.List.{range_with_len}
use Rattle.bs_break.proofs.places.places_of.Given as goal

abbrev pub invariant-places : goal.invariant-places
invariant-places l = l.places.items ≡ filter (λ i. beq (get_or l.flags i false) l.value) (range_with_len 0 l.i)
