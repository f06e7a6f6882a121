-- The bits of a list, the last one first.
use Rattle.std.proofs.Common.{◌≡◌, ℕ, suc, ◌+◌, ◌-◌, ◌<◌, ◌≤◌, Bool, false, List, [], ◌∷◌, ◌++◌, length, take, reverse, get_or, arith, ap, ◌∙◌}
use Rattle.std.proofs.Math.Seq.{take-suc}
use Rattle.std.proofs.lemmas.List.{get_or-reverse, length-reverse, take_all}

-- one bit more
pub turned_more : (bits : List Bool) (at : ℕ) → at < length bits →
    take (at + 1) (reverse bits) ≡ take at (reverse bits) ++ (get_or bits (length bits - 1 - at) false ∷ [])
turned_more bits at there =
    let next : at + 1 ≡ suc at = omega arith in
    ap (λ (k : ℕ). take k (reverse bits)) next
    ∙ take-suc (reverse bits) at false (omega (arith, there, length-reverse bits))
    ∙ ap (λ (b : Bool). take at (reverse bits) ++ (b ∷ [])) (get_or-reverse bits at false there)

-- all of them
pub turned_all : (bits : List Bool) (count : ℕ) → length bits ≤ count → take count (reverse bits) ≡ reverse bits
turned_all bits count all = take_all count (reverse bits) (omega (arith, all, length-reverse bits))
