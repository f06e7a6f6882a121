-- How many nets of an instance are joined, are constants, and are neither.
use Rattle.std.proofs.Common.{◌≡◌, ℕ, zero, suc, ◌<◌, ◌≤◌, ◌+◌, Bool, true, false, cond, ◌&&◌, ◌||◌, List, [], ◌∷◌, ◌++◌, map, length, refl, arith, subst}
use Rattle.std.proofs.Common.{ap, sym, ◌∙◌, ⊎_elim, nat_eq, Option, Some, None, length-append, append-nil, take, get_or}
use Rattle.std.specs.Prelude.{find, filter, is_none, is_some, option_map}
use Rattle.std.specs.List.{AllByRecursion, IsDistinct, range_with_len, flat_map}
use Rattle.std.specs.Bool.{beq}
use Rattle.std.proofs.lemmas.Bool.{cases_Bool, eqb-true, eqb-false}
use Rattle.std.proofs.lemmas.List.{length-map, take_more}
use Rattle.std.proofs.lemmas.List.Concat.{flat_map-append}
use Rattle.std.proofs.lemmas.List.FromFn.{length-range_with_len}
use Rattle.std.proofs.lemmas.Map.Keys.{IsDistinct-head, IsDistinct-tail}
use Rattle.bs_net.specs.Parts.{Parts}
use Rattle.bs_flat_meaning.specs.Design.{Join}
use Rattle.bs_flat_meaning.specs.Meaning.{joined_with}
use Rattle.bs_flat_meaning.specs.Flat.{constant_bit, is_bit}
use Rattle.bs_flat_meaning.proofs.MemberLemmas.{ranged, filter_same}
use Rattle.bs_flat_nets.specs.Blocks.{joins_of_run}
use Rattle.bs_flat_nets.specs.Nets.{is_free_constant, plain_count, constant_count}
use Rattle.bs_flat_nets.specs.Constants.{entry, bit_at, known_constants, is_free, plain_left}
use Rattle.bs_flat_nets.specs.declared.blocks.JoinedNets.{JoinedNets}
use Rattle.bs_flat_nets.specs.declared.constants.Bit.{Bit}
use Rattle.bs_flat_nets.proofs.NetLemmas.{count_none, count_either, count_append}

-- ---- joined nets

pub joined_more : (j : Join) (js : List Join) (n : ℕ) → is_some (joined_with (j ∷ js) n) ≡ (nat_eq j.inner.0 n || is_some (joined_with js n))
joined_more j js n = by (nat_eq j.inner.0 n)
  where
    by : (b : Bool) → is_some (option_map (λ (k : Join). k.outer.0) (cond b (Some j) (find (λ (k : Join). nat_eq k.inner.0 n) js)))
        ≡ (b || is_some (joined_with js n))
    by true = refl
    by false = refl

eq_swap : (a b : ℕ) → nat_eq a b ≡ false → nat_eq b a ≡ false
eq_swap a b e = by (nat_eq b a) refl
  where
    by : (c : Bool) → nat_eq b a ≡ c → c ≡ false
    by true t = let same = eqb-true b a t in let apart = eqb-false a b e in absurd (apart (sym same))
    by false t = refl

not_joined : (k : ℕ) (js : List Join) → AllByRecursion (λ y. nat_eq k y ≡ false) (map (λ (j : Join). j.inner.0) js) → is_some (joined_with js k) ≡ false
not_joined k [] a = refl
not_joined k (j ∷ js) a = joined_more j js k ∙ (ap (λ b. b || is_some (joined_with js k)) (eq_swap k j.inner.0 a.0) ∙ not_joined k js a.1)

count_one : (k a n : ℕ) → a ≤ k → k < a + n → length (filter (nat_eq k) (range_with_len a n)) ≡ 1
count_one k a zero le lt = absurd (omega (arith, le, lt))
count_one k a (suc n) le lt = by (nat_eq k a) refl (count_one k (a + 1) n)
  where
    by : (b : Bool) → nat_eq k a ≡ b → (a + 1 ≤ k → k < (a + 1) + n → length (filter (nat_eq k) (range_with_len (a + 1) n)) ≡ 1) →
        length (cond b (a ∷ filter (nat_eq k) (range_with_len (a + 1) n)) (filter (nat_eq k) (range_with_len (a + 1) n))) ≡ 1
    by true e rest =
        let same = eqb-true k a e in
        let none = count_none (nat_eq k) (range_with_len (a + 1) n) (λ x m. later x (ranged (a + 1) n x m).0 same) in
        omega (arith, none)
      where
        later : (x : ℕ) → a + 1 ≤ x → k ≡ a → nat_eq k x ≡ false
        later x up same =
            ⊎_elim
            (λ (t : nat_eq k x ≡ true). let e2 = eqb-true k x t in absurd (omega (arith, up, same, e2)))
            (λ (f : nat_eq k x ≡ false). f)
            (cases_Bool (nat_eq k x))
    by false e rest = let apart = eqb-false k a e in rest (omega (arith, le, apart)) (omega (arith, lt))

pub joined_counted : (js : List Join) (n : ℕ) → AllByRecursion (λ (j : Join). j.inner.0 < n) js → IsDistinct nat_eq (map (λ (j : Join). j.inner.0) js) →
    length (filter (λ k. is_some (joined_with js k)) (range_with_len 0 n)) ≡ length js
joined_counted [] n a d = count_none (λ k. is_some (joined_with [] k)) (range_with_len 0 n) (λ k m. refl)
joined_counted (j ∷ js) n a d =
    let xs = range_with_len 0 n in
    let one = count_one j.inner.0 0 n (omega arith) (omega (arith, a.0)) in
    let rest = joined_counted js n a.1 (IsDistinct-tail nat_eq j.inner.0 (map (λ (k : Join). k.inner.0) js) d) in
    ap length (filter_same (λ k. is_some (joined_with (j ∷ js) k)) (λ k. nat_eq j.inner.0 k || is_some (joined_with js k)) xs (λ k m. joined_more j js k))
    ∙ (count_either (nat_eq j.inner.0) (λ k. is_some (joined_with js k)) xs apart ∙ omega (arith, one, rest))
  where
    absent : is_some (joined_with js j.inner.0) ≡ false
    absent = not_joined j.inner.0 js (IsDistinct-head nat_eq j.inner.0 (map (λ (k : Join). k.inner.0) js) d)

    apart : (x : ℕ) → (nat_eq j.inner.0 x && is_some (joined_with js x)) ≡ false
    apart x = by (nat_eq j.inner.0 x) refl
      where
        by : (b : Bool) → nat_eq j.inner.0 x ≡ b → (b && is_some (joined_with js x)) ≡ false
        by true e = subst (λ y. is_some (joined_with js y) ≡ false) (eqb-true j.inner.0 x e) absent
        by false e = refl

-- ---- the nets one by one

split_counts : (o : ℕ → Option ℕ) (c : ℕ → Option Bool) (xs : List ℕ) →
    length (filter (λ n. is_none (o n) && is_none (c n)) xs)
    + (length (filter (λ n. is_none (o n) && is_bit false (c n)) xs)
    + (length (filter (λ n. is_none (o n) && is_bit true (c n)) xs) + length (filter (λ n. is_some (o n)) xs))) ≡ length xs
split_counts o c [] = refl
split_counts o c (x ∷ xs) = by (o x) (c x) (split_counts o c xs)
  where
    P : List ℕ
    P = filter (λ n. is_none (o n) && is_none (c n)) xs

    Z : List ℕ
    Z = filter (λ n. is_none (o n) && is_bit false (c n)) xs

    U : List ℕ
    U = filter (λ n. is_none (o n) && is_bit true (c n)) xs

    J : List ℕ
    J = filter (λ n. is_some (o n)) xs

    by : (a : Option ℕ) (b : Option Bool) → length P + (length Z + (length U + length J)) ≡ length xs →
        length (cond (is_none a && is_none b) (x ∷ P) P)
        + (length (cond (is_none a && is_bit false b) (x ∷ Z) Z) + (length (cond (is_none a && is_bit true b) (x ∷ U) U) + length (cond (is_some a) (x ∷ J) J)))
        ≡ length (x ∷ xs)
    by (Some n) b e = omega (arith, e)
    by None None e = omega (arith, e)
    by None (Some true) e = omega (arith, e)
    by None (Some false) e = omega (arith, e)

-- the nets of a module with distinct joins: the joined ones, the constants and the others
pub nets_split : (parts : Parts) (js : List Join) → AllByRecursion (λ (j : Join). j.inner.0 < length parts.names) js →
    IsDistinct nat_eq (map (λ (j : Join). j.inner.0) js) →
    plain_count parts js + (constant_count false parts js + (constant_count true parts js + length js)) ≡ length parts.names
unfolding plain_count constant_count
nets_split parts js a d =
    let xs = range_with_len 0 (length parts.names) in
    let all = split_counts (joined_with js) (constant_bit parts) xs in
    let some = joined_counted js (length parts.names) a d in
    let wide = length-range_with_len 0 (length parts.names) in
    omega (arith, all, some, wide)

-- ---- constants by their list

count_bits : (b : Bool) (parts : Parts) (js : List Join) (xs : List ℕ) →
    length (filter (is_free b js) (flat_map (bit_at parts) xs)) ≡ length (filter (is_free_constant b parts js) xs)
count_bits b parts js [] = refl
count_bits b parts js (x ∷ xs) = by (constant_bit parts x) (count_bits b parts js xs)
  where
    rest : List Bit
    rest = flat_map (bit_at parts) xs

    by : (o : Option Bool) → length (filter (is_free b js) rest) ≡ length (filter (is_free_constant b parts js) xs) →
        length (filter (is_free b js) (entry x o ++ rest))
        ≡ length (cond (is_none (joined_with js x) && is_bit b o) (x ∷ filter (is_free_constant b parts js) xs) (filter (is_free_constant b parts js) xs))
    by None e = e ∙ none (is_none (joined_with js x))
      where
        none : (c : Bool) → length (filter (is_free_constant b parts js) xs)
            ≡ length (cond (c && false) (x ∷ filter (is_free_constant b parts js) xs) (filter (is_free_constant b parts js) xs))
        none true = refl
        none false = refl
    by (Some v) e = one (is_none (joined_with js x) && beq b v)
      where
        one : (c : Bool) → length (cond c (record { net = x; value = v } ∷ filter (is_free b js) rest) (filter (is_free b js) rest))
            ≡ length (cond c (x ∷ filter (is_free_constant b parts js) xs) (filter (is_free_constant b parts js) xs))
        one true = ap suc e
        one false = e

pub constants_counted : (b : Bool) (parts : Parts) (js : List Join) → constant_count b parts js ≡ length (filter (is_free b js) (known_constants parts))
unfolding constant_count
constants_counted b parts js = sym (count_bits b parts js (range_with_len 0 (length parts.names)))

-- ---- runs

pub run_width : (r : JoinedNets) → length (joins_of_run r) ≡ r.width
run_width r = length-map (range_with_len 0 r.width) _ ∙ length-range_with_len 0 r.width

pub widths_none : length (flat_map joins_of_run []) ≡ 0
widths_none = refl

-- the widths of one run more
pub widths_more : (rs : List JoinedNets) (i : ℕ) (d : JoinedNets) → i < length rs →
    length (flat_map joins_of_run (take (i + 1) rs)) ≡ length (flat_map joins_of_run (take i rs)) + (get_or rs i d).width
widths_more rs i d lt =
    ap (λ (us : List JoinedNets). length (flat_map joins_of_run us)) (take_more rs i d lt)
    ∙ (ap length (flat_map-append joins_of_run (take i rs) (get_or rs i d ∷ []))
    ∙ (length-append (flat_map joins_of_run (take i rs)) (joins_of_run (get_or rs i d) ++ [])
    ∙ ap (λ n. length (flat_map joins_of_run (take i rs)) + n) (ap length (append-nil (joins_of_run (get_or rs i d))) ∙ run_width (get_or rs i d))))

-- one more member in a count
pub count_more : {X : Type 0} (t : X → Bool) (xs : List X) (i : ℕ) (d : X) → i < length xs →
    length (filter t (take (i + 1) xs)) ≡ length (filter t (take i xs)) + cond (t (get_or xs i d)) 1 0
count_more {X} t xs i d lt =
    ap (λ (us : List X). length (filter t us)) (take_more xs i d lt)
    ∙ (count_append t (take i xs) (get_or xs i d ∷ []) ∙ ap (λ n. length (filter t (take i xs)) + n) (one (t (get_or xs i d))))
  where
    one : (b : Bool) → length (cond b (get_or xs i d ∷ []) []) ≡ cond b 1 0
    one true = refl
    one false = refl

-- the nets that are neither joined nor constants, by the list of constants
pub plain_counted : (parts : Parts) (js : List Join) → AllByRecursion (λ (j : Join). j.inner.0 < length parts.names) js →
    IsDistinct nat_eq (map (λ (j : Join). j.inner.0) js) →
    plain_count parts js ≡ plain_left (length parts.names) js (known_constants parts)
plain_counted parts js a d =
    let all = nets_split parts js a d in
    let zeros = constants_counted false parts js in
    let ones = constants_counted true parts js in
    omega (arith, all, zeros, ones)
