-- Laws of the number of a trail.
use Rattle.std.proofs.Common.{◌≡◌, ℕ, zero, suc, ◌+◌, ◌^◌, arith, true, false, [], ◌∷◌}
use Rattle.bs_solve_lemmas.specs.Laws.{ConflictsRaiseTheNumber, NumbersGrow, NumbersAreBounded}

power : (n : ℕ) → 2 ^ suc n ≡ 2 ^ n + 2 ^ n
power n = omega arith

pub number_bounded : NumbersAreBounded
number_bounded zero [] = omega arith
number_bounded (suc n) [] = omega (arith, number_bounded n [], power n)
number_bounded zero (d ∷ ds) = omega arith
number_bounded (suc n) (true ∷ ds) = omega (arith, number_bounded n ds, power n)
number_bounded (suc n) (false ∷ ds) = omega (arith, number_bounded n ds, power n)

pub number_grows : NumbersGrow
number_grows n [] more = omega arith
number_grows zero (d ∷ ds) more = omega arith
number_grows (suc n) (d ∷ ds) more = omega (arith, number_grows n ds more)

pub number_rises : ConflictsRaiseTheNumber
number_rises zero before after h = absurd (omega arith)
number_rises (suc n) [] after h = omega (arith, number_bounded n after)
number_rises (suc n) (d ∷ ds) after h = omega (arith, number_rises n ds after (omega arith))
