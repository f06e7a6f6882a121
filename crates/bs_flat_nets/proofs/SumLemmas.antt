-- Bounded sums over modules are the sums over all paths, where no path is too long.
use Rattle.std.proofs.Common.{◌≡◌, ℕ, zero, suc, ◌<◌, ◌≤◌, ◌+◌, min, false, List, [], ◌∷◌, length, get_or, refl, arith, ap, sym, ◌∙◌}
use Rattle.std.proofs.lemmas.Bool.{ltb-false}
use Rattle.bs_flat_meaning.specs.Design.{Design, Instance, no_module, no_instance, instance_in, module_in, module_at}
use Rattle.bs_flat_meaning.specs.Counts.{sum_of, IsHeight}
use Rattle.bs_flat_meaning.specs.Reading.{is_deep}
use Rattle.bs_flat_meaning.specs.declared.limits.TheConstants.{MAX_DEPTH}
use Rattle.bs_flat_meaning.proofs.CountLemmas.{sum_members}
use Rattle.bs_flat_meaning.proofs.HeightLemmas.{depth_is_height}
use Rattle.bs_flat_meaning.specs.Ring.{place_in_order}
use Rattle.bs_flat_nets.specs.Order.{IsChildrenFirst}
use Rattle.bs_flat_nets.proofs.ChildrenLemmas.{children_earlier}
use Rattle.bs_flat_nets.specs.Tables.{Follows}
use Rattle.bs_flat_nets.specs.Nets.{below_sum, sum_below}
use Rattle.bs_flat_nets.proofs.TableLemmas.{sum_none}
use Rattle.bs_flat_nets.proofs.OrderLemmas.{IsLocal}
use Rattle.bs_flat_nets.proofs.BoundLemmas.{height_of, heights_are, falls_by_height}

-- ---- the rule

pub sum_is_local : (b : ℕ) (g : Instance → ℕ) → IsLocal (sum_below b g)
sum_is_local b g =
    record {
      same =
          λ s t m h.
          ap (min b)
          (sum_members (λ (i : Instance). g i + s i.of) (λ (i : Instance). g i + t i.of) m.instances no_instance
          (λ i lt. ap (λ n. g (instance_in m i) + n) (h i lt)));
    }

pub sum_past : (b : ℕ) (g : Instance → ℕ) (v : ℕ → ℕ) → sum_below b g v no_module ≡ 0
sum_past b g v = let none = sum_none (λ (i : Instance). g i + v i.of) in omega (arith, none)

-- ---- levels

no_members : {A : Type 0} (f : A → ℕ) (xs : List A) → ((i : ℕ) → i < length xs → ⊥) → sum_of f xs ≡ 0
unfolding sum_of
no_members f [] h = refl
no_members f (x ∷ xs) h = absurd (h 0 (omega arith))

bounded_weights : {A : Type 0} (b : ℕ) (g f : A → ℕ) (xs : List A) → min b (sum_of (λ x. g x + min b (f x)) xs) ≡ min b (sum_of (λ x. g x + f x) xs)
unfolding sum_of
bounded_weights b g f [] = refl
bounded_weights b g f (x ∷ xs) = let rest = bounded_weights b g f xs in omega (arith, rest)

module _ (d : Design) (g : Instance → ℕ) (v : ℕ → ℕ) (h : IsHeight d v) where
  leaf : (n k : ℕ) → v k ≤ 0 → below_sum (suc n) d g (module_in d k) ≡ 0
  unfolding below_sum
  leaf n k low =
      no_members (λ i. g i + below_sum n d g (module_in d i.of)) (module_in d k).instances
      (λ i lt. let less = falls_by_height d v h k i lt in omega (arith, less, low))

  levels : (n m k : ℕ) → v k ≤ n → v k ≤ m → below_sum n d g (module_in d k) ≡ below_sum m d g (module_in d k)
  unfolding below_sum
  levels zero zero k a b = refl
  levels zero (suc m) k a b = sym (leaf m k a)
  levels (suc n) zero k a b = leaf n k b
  levels (suc n) (suc m) k a b =
      sum_members (λ i. g i + below_sum n d g (module_in d i.of)) (λ i. g i + below_sum m d g (module_in d i.of)) (module_in d k).instances no_instance
      (λ i lt.
      let less = falls_by_height d v h k i lt in
      ap (λ s. g (instance_in (module_in d k) i) + s)
      (levels n m (instance_in (module_in d k) i).of (omega (arith, less, a)) (omega (arith, less, b))))

  abbrev sum_at : ℕ → ℕ
  sum_at k = below_sum (v k) d g (module_in d k)

  sums_are : (k : ℕ) → sum_at k ≡ sum_of (λ i. g i + sum_at i.of) (module_in d k).instances
  unfolding below_sum
  sums_are k =
      levels (v k) (suc (v k)) k (omega arith) (omega arith)
      ∙ sum_members (λ i. g i + below_sum (v k) d g (module_in d i.of)) (λ i. g i + sum_at i.of) (module_in d k).instances no_instance
      (λ i lt.
      let c = (instance_in (module_in d k) i).of in
      let less = falls_by_height d v h k i lt in
      ap (λ s. g (instance_in (module_in d k) i) + s) (levels (v k) (v c) c (omega (arith, less)) (omega arith)))

  sums_bounded : (b : ℕ) (t : ℕ → ℕ) → ((k : ℕ) → t k ≡ sum_below b g t (module_in d k)) → (n k : ℕ) → v k < n → t k ≡ min b (sum_at k)
  sums_bounded b t e zero k lt = absurd (omega (arith, lt))
  sums_bounded b t e (suc n) k lt =
      let is = (module_in d k).instances in
      e k
      ∙ (ap (min b)
      (sum_members (λ i. g i + t i.of) (λ i. g i + min b (sum_at i.of)) is no_instance
      (λ i li.
      let less = falls_by_height d v h k i li in
      ap (λ s. g (instance_in (module_in d k) i) + s) (sums_bounded b t e n (instance_in (module_in d k) i).of (omega (arith, less, lt)))))
      ∙ (bounded_weights b g (λ i. sum_at i.of) is ∙ ap (min b) (sym (sums_are k))))

  top_sum : (n : ℕ) → v d.top ≤ n → below_sum n d g (module_at d []) ≡ sum_at d.top
  unfolding module_at
  top_sum n le = levels n (v d.top) d.top le (omega arith)

-- a table along an order has the sum below the top, up to its bound
pub sum_decides : (d : Design) (g : Instance → ℕ) (b : ℕ) (order table : List ℕ) → IsChildrenFirst d.modules order → is_deep d ≡ false →
    Follows (sum_below b g) 0 d.modules table → get_or table d.top 0 ≡ min b (below_sum MAX_DEPTH d g (module_at d []))
sum_decides d g b order table o shallow t =
    let rank : ℕ → ℕ = place_in_order order in
    let v : ℕ → ℕ = height_of d rank in
    let h = heights_are d rank (children_earlier d.modules order o) in
    let low = ltb-false MAX_DEPTH (v d.top) (sym (depth_is_height d v h) ∙ shallow) in
    sums_bounded d g v h b (λ k. get_or table k 0) t.each (suc (v d.top)) d.top (omega arith) ∙ ap (min b) (sym (top_sum d g v h MAX_DEPTH low))
