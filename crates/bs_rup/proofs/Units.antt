-- The unit of a step among those of all steps.
use Rattle.std.proofs.Common.{◌≡◌, ℕ, zero, suc, ◌+◌, ◌-◌, ◌<◌, ◌≤◌, arith, Bool, true, false, [], ◌∷◌, ◌++◌, length, refl, ap, ◌∙◌, Some, nat_lt}
use Rattle.std.specs.Prelude.{slice_get}
use Rattle.std.proofs.lemmas.Bool.{ltb-true, ltb-false}
use Rattle.std.proofs.lemmas.List.{length-append}
use Rattle.bs_clause.specs.Literal.{Literal, Clause}
use Rattle.bs_rup.specs.Retired.{retired_units}

before_end : (xs ys : Clause) (k : ℕ) (x : Literal) → slice_get xs k ≡ Some x → slice_get (xs ++ ys) k ≡ Some x
before_end [] ys k x h = absurd (cc)
before_end (y ∷ xs) ys zero x h = h
before_end (y ∷ xs) ys (suc k) x h = before_end xs ys k x h

at_end : (xs : Clause) (k : ℕ) (x : Literal) → k ≡ length xs → slice_get (xs ++ x ∷ []) k ≡ Some x
at_end [] zero x h = refl
at_end [] (suc k) x h = absurd (omega arith)
at_end (y ∷ xs) zero x h = absurd (omega arith)
at_end (y ∷ xs) (suc k) x h = at_end xs k x (omega arith)

units_counted : (vars n : ℕ) → length (retired_units vars n) ≡ n
units_counted vars zero = refl
units_counted vars (suc n) = length-append (retired_units vars n) _ ∙ omega (arith, units_counted vars n)

unit_of : (vars n k : ℕ) → k < n → slice_get (retired_units vars n) k ≡ Some (record { variable = vars + suc k; positive = false })
unit_of vars zero k h = absurd (omega arith)
unit_of vars (suc n) k h = by (nat_lt k n) refl (unit_of vars n k)
  where
    by : (b : Bool) → nat_lt k n ≡ b → (k < n → slice_get (retired_units vars n) k ≡ Some (record { variable = vars + suc k; positive = false })) →
        slice_get (retired_units vars (suc n)) k ≡ Some (record { variable = vars + suc k; positive = false })
    by true e earlier = before_end (retired_units vars n) _ k _ (earlier (ltb-true k n e))
    by false e earlier =
        let last : n ≡ k = omega (arith, ltb-false k n e) in
        at_end (retired_units vars n) k (record { variable = vars + suc n; positive = false }) (omega (arith, last, units_counted vars n)) ∙
        ap (λ m. Some (record { variable = vars + suc m; positive = false })) last

pub unit_of_step : (vars n step : ℕ) (units : Clause) → units ≡ retired_units vars n → 1 ≤ step → step ≤ n →
    slice_get units (step - 1) ≡ Some (record { variable = vars + step; positive = false })
unit_of_step vars n step units is first inside =
    let same : vars + suc (step - 1) ≡ vars + step = omega arith in
    ap (λ us. slice_get us (step - 1)) is ∙ unit_of vars n (step - 1) (omega arith) ∙ ap (λ v. Some (record { variable = v; positive = false })) same
