-- How many signatures a register keeps, and what a dump knows of its state, are facts that hold in one way, so that a ghost field may say
-- them.
use Rattle.std.proofs.Common.{◌≡◌, inl, inr, ℕ, arith, Bool, true, false, List, [], subst}
use Rattle.std.specs.List.{list_any}
use Rattle.std.proofs.Props.{props}
use Rattle.bs_scan.specs.declared.seen.Seen.{Seen}
use Rattle.bs_scan.specs.Seen.{IsPartial, IsSeen}
use Rattle.bs_scan.specs.Choice.{IsDepth}

no_two : (d : ℕ) → d ≡ 1 → d ≡ 2 → ⊥
no_two d a b = omega (arith, a, b)

pub depth_prop : (d : ℕ) → IsProp (IsDepth d)
depth_prop d (inl a) (inl b) = let one : IsProp (d ≡ 1) = hlevel props in λ i. inl (one a b i)
depth_prop d (inl a) (inr b) = absurd (no_two d a b)
depth_prop d (inr a) (inl b) = absurd (no_two d b a)
depth_prop d (inr a) (inr b) = let two : IsProp (d ≡ 2) = hlevel props in λ i. inr (two a b i)

no_part : (seen : Seen) → seen.free ≡ [] → IsPartial seen → ⊥
no_part seen none some =
    let no : false ≡ true = subst (λ (free : List Bool). list_any (λ f. f) free ≡ true) none some.some in absurd cc

pub seen_prop : (seen : Seen) → IsProp (IsSeen seen)
seen_prop seen (inl a) (inl b) = let all : IsProp (seen.free ≡ []) = hlevel props in λ i. inl (all a b i)
seen_prop seen (inl a) (inr b) = absurd (no_part seen a b)
seen_prop seen (inr a) (inl b) = absurd (no_part seen b a)
seen_prop seen (inr a) (inr b) = let part : IsProp (IsPartial seen) = hlevel props in λ i. inr (part a b i)
