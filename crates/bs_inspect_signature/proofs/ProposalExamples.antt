-- Worked items: five flip-flops that draw from decks of three, and the first of seven that draws three of six.
use Rattle.std.proofs.Common.{◌≡◌, [], ◌∷◌, refl}
use Rattle.rand_pcg.specs.Lcg.{state_after}
use Rattle.bs_gen.specs.Draws.{after, draw, draws_of}
use Rattle.bs_inspect_signature.specs.Deck.{behind, deck_before, hand_of}
use Rattle.bs_inspect_signature.specs.Mixed.{mixed_items}

five_of_three : mixed_items 5 3 ≡ (1 ∷ 4 ∷ []) ∷ (0 ∷ []) ∷ (2 ∷ 3 ∷ []) ∷ []
unfolding after behind deck_before draw draws_of state_after
five_of_three = refl

first_of_seven : hand_of 6 0 ≡ 1 ∷ 5 ∷ 4 ∷ []
unfolding after behind deck_before draw draws_of state_after
first_of_seven = refl
