use Rattle.std.proofs.Common.{get_or, false, refl}
use Rattle.std.specs.Bool.{beq}
use Rattle.bs_break.proofs.PlaceLemmas.{one_more_place}
use Rattle.bs_break.proofs.places.places_of.Goals as goal

pub places-preserved : goal.places-preserved
places-preserved c =
    one_more_place (λ i. beq (get_or c.args.flags.now i false) c.args.value) c.places.i c.places.places.items _ _ c.places.invariant refl
    c.in_ok-push_if.ensures
