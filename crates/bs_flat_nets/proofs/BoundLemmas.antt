-- Bounded heights and sums of modules decide whether a design is too deep, and whether it has too many parts.
use Rattle.std.proofs.Common.{◌≡◌, ℕ, zero, suc, ◌<◌, ◌+◌, ◌-◌, min, Bool, true, false, List, [], ◌∷◌, length, get_or, nat_lt, refl, arith}
use Rattle.std.proofs.Common.{ap, sym, ◌∙◌, lt-ltb, le-ltb}
use Rattle.std.proofs.lemmas.Bool.{ltb-true, ltb-false}
use Rattle.bs_flat_meaning.specs.Design.{Design, Instance, Path, no_module, no_instance, instance_in, module_in, paths, gates, flops}
use Rattle.bs_flat_meaning.specs.Counts.{sum_of, total, IsTotal, tallest, height, IsHeight, parts_in}
use Rattle.bs_flat_meaning.specs.Reading.{is_deep, part_count}
use Rattle.bs_flat_meaning.specs.declared.limits.TheConstants.{MAX_DEPTH, MAX_PARTS}
use Rattle.bs_flat_meaning.proofs.CountLemmas.{sum_members, parts_are_summed}
use Rattle.bs_flat_meaning.proofs.HeightLemmas.{tallest_same, depth_is_height}
use Rattle.bs_flat_meaning.proofs.MemberLemmas.{Member}
use Rattle.bs_flat_meaning.proofs.RootLemmas.{top_is_path}
use Rattle.bs_flat_meaning.specs.Ring.{place_in_order}
use Rattle.bs_flat_nets.specs.Order.{IsChildrenFirst}
use Rattle.bs_flat_nets.proofs.ChildrenLemmas.{children_earlier}
use Rattle.bs_flat_nets.specs.Tables.{Follows, depth_by, count_by_parts}
use Rattle.bs_flat_nets.proofs.TableLemmas.{tallest_none, sum_none}
use Rattle.bs_flat_nets.proofs.OrderLemmas.{IsLocal}

-- ---- lists

tallest_above : {A : Type 0} (f : A → ℕ) (xs : List A) (i : ℕ) (d : A) → i < length xs → f (get_or xs i d) < tallest f xs
unfolding tallest
tallest_above f [] i d lt = absurd (omega (arith, lt))
tallest_above f (x ∷ xs) zero d lt = omega arith
tallest_above f (x ∷ xs) (suc i) d lt = let rest = tallest_above f xs i d (omega (arith, lt)) in omega (arith, rest)

bounded_tallest : {A : Type 0} (b : ℕ) (f : A → ℕ) (xs : List A) → min b (tallest (λ x. min b (f x)) xs) ≡ min b (tallest f xs)
unfolding tallest
bounded_tallest b f [] = refl
bounded_tallest b f (x ∷ xs) = let rest = bounded_tallest b f xs in omega (arith, rest)

bounded_sum : {A : Type 0} (b : ℕ) (f : A → ℕ) (xs : List A) → min b (sum_of (λ x. min b (f x)) xs) ≡ min b (sum_of f xs)
unfolding sum_of
bounded_sum b f [] = refl
bounded_sum b f (x ∷ xs) = let rest = bounded_sum b f xs in omega (arith, rest)

-- ---- the rules

pub depth_is_local : (b : ℕ) → IsLocal (depth_by b)
depth_is_local b =
    record { same = λ s t m h. ap (min b) (tallest_same (λ (i : Instance). s i.of) (λ (i : Instance). t i.of) m.instances no_instance h) }

pub count_is_local : (b : ℕ) → IsLocal (count_by_parts b)
count_is_local b =
    record {
      same = λ s t m h. ap (λ n. min b (parts_in m + n)) (sum_members (λ (i : Instance). s i.of) (λ (i : Instance). t i.of) m.instances no_instance h);
    }

pub depth_past : (b : ℕ) (v : ℕ → ℕ) → depth_by b v no_module ≡ 0
depth_past b v = let none = tallest_none (λ (i : Instance). v i.of) in omega (arith, none)

pub count_past : (b : ℕ) (v : ℕ → ℕ) → 0 < b → count_by_parts b v no_module ≡ 1
count_past b v pos = let none = sum_none (λ (i : Instance). v i.of) in omega (arith, none, pos)

-- ---- heights and sums without a bound

-- a rank falls along instances
abbrev Falls : Design → (ℕ → ℕ) → Type 0
Falls d rank = (k i : ℕ) → i < length (module_in d k).instances → rank (instance_in (module_in d k) i).of < rank k

height_levels : (d : Design) (rank : ℕ → ℕ) → Falls d rank → (n m k : ℕ) → rank k < n → rank k < m → height n d (module_in d k) ≡ height m d (module_in d k)
unfolding height
height_levels d rank f zero m k a b = absurd (omega (arith, a))
height_levels d rank f (suc n) zero k a b = absurd (omega (arith, b))
height_levels d rank f (suc n) (suc m) k a b =
    tallest_same (λ (i : Instance). height n d (module_in d i.of)) (λ (i : Instance). height m d (module_in d i.of)) (module_in d k).instances no_instance
    (λ i li.
    let less = f k i li in
    height_levels d rank f n m (instance_in (module_in d k) i).of (omega (arith, less, a)) (omega (arith, less, b)))

abbrev pub height_of : Design → (ℕ → ℕ) → ℕ → ℕ
height_of d rank k = height (suc (rank k)) d (module_in d k)

pub heights_are : (d : Design) (rank : ℕ → ℕ) → Falls d rank → IsHeight d (height_of d rank)
unfolding height
heights_are d rank f =
    record {
      tall =
          λ k.
          tallest_same (λ (i : Instance). height (rank k) d (module_in d i.of)) (λ (i : Instance). height_of d rank i.of) (module_in d k).instances no_instance
          (λ i li.
          let c = (instance_in (module_in d k) i).of in
          let less = f k i li in
          height_levels d rank f (rank k) (suc (rank c)) c less (omega arith));
    }

-- a height is above those of the instances' modules
pub falls_by_height : (d : Design) (v : ℕ → ℕ) → IsHeight d v → (k i : ℕ) → i < length (module_in d k).instances →
    v (instance_in (module_in d k) i).of < v k
falls_by_height d v h k i li =
    let up = tallest_above (λ (x : Instance). v x.of) (module_in d k).instances i no_instance li in
    omega (arith, up, h.tall k)

total_levels : (d : Design) (rank : ℕ → ℕ) → Falls d rank → (n m k : ℕ) → rank k < n → rank k < m →
    total n d parts_in (module_in d k) ≡ total m d parts_in (module_in d k)
unfolding total
total_levels d rank f zero m k a b = absurd (omega (arith, a))
total_levels d rank f (suc n) zero k a b = absurd (omega (arith, b))
total_levels d rank f (suc n) (suc m) k a b =
    ap (λ s. parts_in (module_in d k) + s)
    (sum_members (λ (i : Instance). total n d parts_in (module_in d i.of)) (λ (i : Instance). total m d parts_in (module_in d i.of))
    (module_in d k).instances no_instance
    (λ i li.
    let less = f k i li in
    total_levels d rank f n m (instance_in (module_in d k) i).of (omega (arith, less, a)) (omega (arith, less, b))))

abbrev total_of : Design → (ℕ → ℕ) → ℕ → ℕ
total_of d rank k = total (suc (rank k)) d parts_in (module_in d k)

totals_are : (d : Design) (rank v : ℕ → ℕ) → Falls d rank → IsHeight d v → IsTotal d parts_in (total_of d rank) v
unfolding total
totals_are d rank v f h =
    record {
      sums =
          λ k.
          ap (λ s. parts_in (module_in d k) + s)
          (sum_members (λ (i : Instance). total (rank k) d parts_in (module_in d i.of)) (λ (i : Instance). total_of d rank i.of)
          (module_in d k).instances no_instance
          (λ i li.
          let c = (instance_in (module_in d k) i).of in
          let less = f k i li in
          total_levels d rank f (rank k) (suc (rank c)) c less (omega arith)));
      falls = falls_by_height d v h;
    }

-- ---- with a bound

depths_bounded : (d : Design) (rank v t : ℕ → ℕ) (b : ℕ) → Falls d rank → IsHeight d v → ((k : ℕ) → t k ≡ depth_by b t (module_in d k)) →
    (n k : ℕ) → rank k < n → t k ≡ min b (v k)
depths_bounded d rank v t b f h e zero k lt = absurd (omega (arith, lt))
depths_bounded d rank v t b f h e (suc n) k lt =
    let is = (module_in d k).instances in
    e k
    ∙ (ap (min b)
    (tallest_same (λ (i : Instance). t i.of) (λ (i : Instance). min b (v i.of)) is no_instance
    (λ i li. let less = f k i li in depths_bounded d rank v t b f h e n (instance_in (module_in d k) i).of (omega (arith, less, lt))))
    ∙ (bounded_tallest b (λ (i : Instance). v i.of) is ∙ ap (min b) (sym (h.tall k))))

below_sum : (b a s r : ℕ) → min b s ≡ min b r → min b (a + s) ≡ min b (a + r)
below_sum b a s r e = omega (arith, e)

counts_bounded : (d : Design) (rank v h t : ℕ → ℕ) (b : ℕ) → Falls d rank → IsTotal d parts_in v h → ((k : ℕ) → t k ≡ count_by_parts b t (module_in d k)) →
    (n k : ℕ) → rank k < n → t k ≡ min b (v k)
counts_bounded d rank v h t b f s e zero k lt = absurd (omega (arith, lt))
counts_bounded d rank v h t b f s e (suc n) k lt =
    let is = (module_in d k).instances in
    let a = parts_in (module_in d k) in
    e k
    ∙ (ap (λ r. min b (a + r))
    (sum_members (λ (i : Instance). t i.of) (λ (i : Instance). min b (v i.of)) is no_instance
    (λ i li. let less = f k i li in counts_bounded d rank v h t b f s e n (instance_in (module_in d k) i).of (omega (arith, less, lt))))
    ∙ (below_sum b a (sum_of (λ (i : Instance). min b (v i.of)) is) (sum_of (λ (i : Instance). v i.of) is) (bounded_sum b (λ (i : Instance). v i.of) is)
    ∙ ap (min b) (sym (s.sums k))))

-- ---- what the tables decide

ends_above : (b x : ℕ) → nat_lt b (min (b + 1) x) ≡ nat_lt b x
ends_above b x = by (nat_lt b x) refl
  where
    by : (p : Bool) → nat_lt b x ≡ p → nat_lt b (min (b + 1) x) ≡ p
    by true e = let lt = ltb-true b x e in lt-ltb b (min (b + 1) x) (omega (arith, lt))
    by false e = let le = ltb-false b x e in le-ltb b (min (b + 1) x) (omega (arith, le))

pub depth_decides : (d : Design) (order table : List ℕ) → IsChildrenFirst d.modules order → Follows (depth_by (MAX_DEPTH + 1)) 0 d.modules table →
    nat_lt MAX_DEPTH (get_or table d.top 0) ≡ is_deep d
depth_decides d order table o t =
    let rank : ℕ → ℕ = place_in_order order in
    let f : Falls d rank = children_earlier d.modules order o in
    let h = heights_are d rank f in
    let at = depths_bounded d rank (height_of d rank) (λ k. get_or table k 0) (MAX_DEPTH + 1) f h t.each (suc (rank d.top)) d.top (omega arith) in
    ap (nat_lt MAX_DEPTH) at ∙ (ends_above MAX_DEPTH (height_of d rank d.top) ∙ sym (depth_is_height d (height_of d rank) h))

some : (x : Path) (xs : List Path) → Member x xs → 0 < length xs
some x [] m = absurd m
some x (y ∷ ys) m = omega arith

one_less : (m g f p v : ℕ) → 0 < p → g + (f + p) ≡ v → nat_lt (m + 1) v ≡ nat_lt m (g + (f + (p - 1)))
one_less m g f p v pos e = by (nat_lt (m + 1) v) refl
  where
    by : (b : Bool) → nat_lt (m + 1) v ≡ b → b ≡ nat_lt m (g + (f + (p - 1)))
    by true q = let lt = ltb-true (m + 1) v q in sym (lt-ltb m (g + (f + (p - 1))) (omega (arith, lt, pos, e)))
    by false q = let le = ltb-false (m + 1) v q in sym (le-ltb m (g + (f + (p - 1))) (omega (arith, le, pos, e)))

pub count_decides : (d : Design) (order table : List ℕ) → IsChildrenFirst d.modules order → is_deep d ≡ false →
    Follows (count_by_parts (MAX_PARTS + 2)) 1 d.modules table → nat_lt (MAX_PARTS + 1) (get_or table d.top 1) ≡ nat_lt MAX_PARTS (part_count d)
count_decides d order table o shallow t =
    let rank : ℕ → ℕ = place_in_order order in
    let f : Falls d rank = children_earlier d.modules order o in
    let h = heights_are d rank f in
    let s = totals_are d rank (height_of d rank) f h in
    let low = ltb-false MAX_DEPTH (height_of d rank d.top) (sym (depth_is_height d (height_of d rank) h) ∙ shallow) in
    let v = total_of d rank d.top in
    let sum = parts_are_summed d (total_of d rank) (height_of d rank) s low in
    let at =
    counts_bounded d rank (total_of d rank) (height_of d rank) (λ k. get_or table k 1) (MAX_PARTS + 2) f s t.each (suc (rank d.top)) d.top (omega arith) in
    ap (nat_lt (MAX_PARTS + 1)) at
    ∙ (ends_above (MAX_PARTS + 1) v ∙ one_less MAX_PARTS (length (gates d)) (length (flops d)) (length (paths d)) v (some [] (paths d) (top_is_path d)) sum)
