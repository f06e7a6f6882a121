-- The last member of a list.
use Rattle.std.proofs.Common.{◌≡◌, ◌-◌, List, [], ◌∷◌, length, refl, ap, ◌∙◌, Some, None, arith}
use Rattle.std.specs.Prelude.{slice_get}
use Rattle.std.specs.List.{last_or}

last_from : {X : Type 0} (x : X) (xs : List X) → slice_get (x ∷ xs) (length xs) ≡ last_or (Some x) xs
last_from x [] = refl
last_from x (y ∷ xs) = last_from y xs

pub last_is : {X : Type 0} (xs : List X) → slice_get xs (length xs - 1) ≡ last_or None xs
last_is [] = refl
last_is (x ∷ xs) = let place : length (x ∷ xs) - 1 ≡ length xs = omega arith in ap (slice_get (x ∷ xs)) place ∙ last_from x xs
