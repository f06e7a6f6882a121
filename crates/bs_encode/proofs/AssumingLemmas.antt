-- What each of several steps assumes, one step after another.
use Rattle.std.proofs.Common.{◌≡◌, ℕ, suc, zero, ◌+◌, true, List, [], ◌∷◌, ◌++◌, length, refl, ap, sym, ◌∙◌, Some, arith, add-zero}
use Rattle.std.specs.Prelude.{slice_get}
use Rattle.bs_clause.specs.Literal.{Clause}
use Rattle.bs_scan.specs.Present.{Present}
use Rattle.bs_encode.specs.Tables.{lit}
use Rattle.bs_encode.specs.Encoded.{Encoded}
use Rattle.bs_encode.specs.Assuming.{assumptions_for, steps_from}

pub length_steps_from : (e : Encoded) (n : ℕ) (qs : List Present) → length (steps_from e n qs) ≡ length qs
length_steps_from e n [] = refl
length_steps_from e n (q ∷ qs) = ap suc (length_steps_from e (n + 1) qs)

pub steps_from_more : (e : Encoded) (n : ℕ) (qs : List Present) (q : Present) →
    steps_from e n (qs ++ q ∷ []) ≡ steps_from e n qs ++ assumptions_for e (lit (e.variables + (n + length qs)) true) q ∷ []
steps_from_more e n [] q = ap (λ (m : ℕ). assumptions_for e (lit (e.variables + m) true) q ∷ []) (sym (add-zero n))
steps_from_more e n (p ∷ ps) q =
    let same : (n + 1) + length ps ≡ n + suc (length ps) = omega arith in
    ap (λ (l : List Clause). assumptions_for e (lit (e.variables + n) true) p ∷ l)
    (steps_from_more e (n + 1) ps q ∙ ap (λ (m : ℕ). steps_from e (n + 1) ps ++ assumptions_for e (lit (e.variables + m) true) q ∷ []) same)

pub assumptions_at : (e : Encoded) (n : ℕ) (qs : List Present) (i : ℕ) (q : Present) → slice_get qs i ≡ Some q →
    slice_get (steps_from e n qs) i ≡ Some (assumptions_for e (lit (e.variables + (n + i)) true) q)
assumptions_at e n [] i q is = cc
assumptions_at e n (p ∷ ps) zero q is =
    let same : p ≡ q = cc in
    λ k. Some (assumptions_for e (lit (e.variables + sym (add-zero n) k) true) (same k))
assumptions_at e n (p ∷ ps) (suc i) q is =
    let same : (n + 1) + i ≡ n + suc i = omega arith in
    assumptions_at e (n + 1) ps i q is ∙ ap (λ (m : ℕ). Some (assumptions_for e (lit (e.variables + m) true) q)) same
