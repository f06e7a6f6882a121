-- The nets that runs leave, run by run.
use Rattle.std.proofs.Common.{◌≡◌, ℕ, zero, suc, ◌<◌, ◌≤◌, ◌+◌, ◌-◌, Bool, true, false, not, ◌&&◌, ◌||◌, List, [], ◌∷◌, ◌++◌, refl, arith}
use Rattle.std.proofs.Common.{ap, sym, ◌∙◌, ⊎_elim, nat_le, nat_lt, append-nil, is_none, is_some, Option, Some, None}
use Rattle.std.specs.Prelude.{filter, IsPermutation}
use Rattle.std.specs.List.{range_with_len, flat_map, list_any}
use Rattle.std.proofs.lemmas.Bool.{cases_Bool, and_parts, leb-true, ltb-true, le-leb, lt-ltb}
use Rattle.std.proofs.lemmas.List.Elements.{filter-append}
use Rattle.std.proofs.lemmas.List.Sorted.{list_any-IsPermutation}
use Rattle.bs_flat_meaning.specs.Meaning.{joined_with}
use Rattle.bs_flat_meaning.proofs.MemberLemmas.{Member, ranged, filter_same}
use Rattle.bs_flat_nets.specs.Blocks.{joins_of_run}
use Rattle.bs_flat_nets.specs.Constants.{covers}
use Rattle.bs_flat_nets.specs.declared.blocks.JoinedNets.{JoinedNets}
use Rattle.bs_flat_nets.proofs.RunLemmas.{runs_join}
use Rattle.bs_flat_nets.specs.Free.{free_nets}

-- whether no run joins a net
abbrev pub is_left : List JoinedNets → ℕ → Bool
is_left rs n = not (list_any (λ (r : JoinedNets). covers r n) rs)

-- the nets below a number that runs leave, which reach no further
pub record IsLeft (rs : List JoinedNets) (next : ℕ) (nets : List ℕ) : Type 0 where
  pub are : nets ≡ filter (is_left rs) (range_with_len 0 next)
  pub past : (n : ℕ) → next ≤ n → list_any (λ (r : JoinedNets). covers r n) rs ≡ false

pub left_none : (next : ℕ) → next ≡ 0 → IsLeft [] next []
left_none next e = record { are = ap (λ n. filter (is_left []) (range_with_len 0 n)) (sym e); past = λ n le. refl }

pub range_split : (a k m : ℕ) → range_with_len a (k + m) ≡ range_with_len a k ++ range_with_len (a + k) m
range_split a zero m = let e : a ≡ a + 0 = omega arith in let f : 0 + m ≡ m = omega arith in
    ap (range_with_len a) f ∙ ap (λ b. range_with_len b m) e
range_split a (suc k) m =
    let e : (a + 1) + k ≡ a + suc k = omega arith in
    let f : suc k + m ≡ suc (k + m) = omega arith in
    ap (range_with_len a) f
    ∙ ap (λ u. a ∷ u) (range_split (a + 1) k m ∙ ap (λ b. range_with_len (a + 1) k ++ range_with_len b m) e)

filter_all : (t : ℕ → Bool) (xs : List ℕ) → ((x : ℕ) → Member x xs → t x ≡ true) → filter t xs ≡ xs
filter_all t xs h = filter_same t (λ x. true) xs h ∙ whole xs
  where
    whole : (ys : List ℕ) → filter (λ y. true) ys ≡ ys
    whole [] = refl
    whole (y ∷ ys) = ap (λ u. y ∷ u) (whole ys)

filter_none : (t : ℕ → Bool) (xs : List ℕ) → ((x : ℕ) → Member x xs → t x ≡ false) → filter t xs ≡ []
filter_none t xs h = filter_same t (λ x. false) xs h ∙ empty xs
  where
    empty : (ys : List ℕ) → filter (λ y. false) ys ≡ []
    empty [] = refl
    empty (y ∷ ys) = empty ys

any_append : (t : JoinedNets → Bool) (xs : List JoinedNets) (y : JoinedNets) → list_any t (xs ++ y ∷ []) ≡ (list_any t xs || t y)
any_append t [] y = by (t y)
  where
    by : (b : Bool) → (b || false) ≡ (false || b)
    by true = refl
    by false = refl
any_append t (x ∷ xs) y = ap (λ b. t x || b) (any_append t xs y) ∙ assoc (t x) (list_any t xs) (t y)
  where
    assoc : (p q r : Bool) → (p || (q || r)) ≡ ((p || q) || r)
    assoc true q r = refl
    assoc false q r = refl

pub below_run : (r : JoinedNets) (n : ℕ) → n < r.inner → covers r n ≡ false
below_run r n lt =
    ⊎_elim
    (λ (t : covers r n ≡ true).
    let low = leb-true r.inner n (and_parts (nat_le r.inner n) (nat_lt (n - r.inner) r.width) t).0 in
    absurd (omega (arith, low, lt)))
    (λ (f : covers r n ≡ false). f)
    (cases_Bool (covers r n))

pub past_run : (r : JoinedNets) (n : ℕ) → r.inner + r.width ≤ n → covers r n ≡ false
past_run r n le =
    ⊎_elim
    (λ (t : covers r n ≡ true).
    let both = and_parts (nat_le r.inner n) (nat_lt (n - r.inner) r.width) t in
    let low = leb-true r.inner n both.0 in
    let high = ltb-true (n - r.inner) r.width both.1 in
    absurd (omega (arith, low, high, le)))
    (λ (f : covers r n ≡ false). f)
    (cases_Bool (covers r n))

in_run : (r : JoinedNets) (n : ℕ) → r.inner ≤ n → n < r.inner + r.width → covers r n ≡ true
in_run r n low high =
    ap (λ b. b && nat_lt (n - r.inner) r.width) (le-leb r.inner n low) ∙ lt-ltb (n - r.inner) r.width (omega (arith, low, high))

-- one run more, which begins no lower than the others reach
pub left_more : (rs : List JoinedNets) (next : ℕ) (nets : List ℕ) (r : JoinedNets) → next ≤ r.inner → IsLeft rs next nets →
    IsLeft (rs ++ r ∷ []) (r.inner + r.width) (nets ++ range_with_len next (r.inner - next))
left_more rs next nets r le k =
    let t : ℕ → Bool = is_left (rs ++ r ∷ []) in
    let any : ℕ → Bool = λ n. list_any (λ (q : JoinedNets). covers q n) rs in
    let also : (n : ℕ) → t n ≡ not (any n || covers r n) = λ n. ap not (any_append (λ (q : JoinedNets). covers q n) rs r) in
    let gap = r.inner - next in
    let whole : r.inner + r.width ≡ next + (gap + r.width) = omega (arith, le) in
    let from : next + gap ≡ r.inner = omega (arith, le) in
    let start : 0 + next ≡ next = omega arith in
    let first : filter t (range_with_len 0 next) ≡ nets =
    filter_same t (is_left rs) (range_with_len 0 next)
    (λ n m.
    let lt = (ranged 0 next n m).1 in
    also n ∙ (ap (λ b. not (any n || b)) (below_run r n (omega (arith, lt, le))) ∙ or_none (any n)))
    ∙ sym k.are in
    let second : filter t (range_with_len next gap) ≡ range_with_len next gap =
    filter_all t (range_with_len next gap)
    (λ n m.
    let i = ranged next gap n m in
    also n
    ∙ (ap (λ b. not (any n || b)) (below_run r n (omega (arith, i.1, le)))
    ∙ ap (λ b. not (b || false)) (k.past n i.0))) in
    let third : filter t (range_with_len r.inner r.width) ≡ [] =
    filter_none t (range_with_len r.inner r.width)
    (λ n m.
    let i = ranged r.inner r.width n m in
    also n ∙ (ap (λ b. not (any n || b)) (in_run r n i.0 i.1) ∙ or_true (any n))) in
    record {
      are =
          sym
          (ap (λ n. filter t (range_with_len 0 n)) whole
          ∙ (ap (filter t) (range_split 0 next (gap + r.width))
          ∙ (filter-append t (range_with_len 0 next) (range_with_len (0 + next) (gap + r.width))
          ∙ (ap (λ u. u ++ filter t (range_with_len (0 + next) (gap + r.width))) first
          ∙ ap (λ u. nets ++ u)
          (ap (λ n. filter t (range_with_len n (gap + r.width))) start
          ∙ (ap (filter t) (range_split next gap r.width)
          ∙ (filter-append t (range_with_len next gap) (range_with_len (next + gap) r.width)
          ∙ (ap (λ u. u ++ filter t (range_with_len (next + gap) r.width)) second
          ∙ (ap (λ n. range_with_len next gap ++ filter t (range_with_len n r.width)) from
          ∙ (ap (λ u. range_with_len next gap ++ u) third ∙ append-nil (range_with_len next gap)))))))))));
      past =
          λ n up.
          any_append (λ (q : JoinedNets). covers q n) rs r
          ∙ (ap (λ b. any n || b) (past_run r n up) ∙ ap (λ b. b || false) (k.past n (omega (arith, up, le))));
    }
  where
    or_none : (b : Bool) → not (b || false) ≡ not b
    or_none true = refl
    or_none false = refl

    or_true : (b : Bool) → not (b || true) ≡ false
    or_true true = refl
    or_true false = refl

-- the nets up to the last
pub left_all : (rs : List JoinedNets) (next count : ℕ) (nets : List ℕ) → next ≤ count → IsLeft rs next nets →
    nets ++ range_with_len next (count - next) ≡ filter (is_left rs) (range_with_len 0 count)
left_all rs next count nets le k =
    let t = is_left rs in
    let whole : count ≡ next + (count - next) = omega (arith, le) in
    let start : 0 + next ≡ next = omega arith in
    let rest : filter t (range_with_len next (count - next)) ≡ range_with_len next (count - next) =
    filter_all t (range_with_len next (count - next)) (λ n m. ap not (k.past n (ranged next (count - next) n m).0)) in
    sym
    (ap (λ n. filter t (range_with_len 0 n)) whole
    ∙ (ap (filter t) (range_split 0 next (count - next))
    ∙ (filter-append t (range_with_len 0 next) (range_with_len (0 + next) (count - next))
    ∙ (ap (λ u. u ++ filter t (range_with_len (0 + next) (count - next))) (sym k.are)
    ∙ ap (λ u. nets ++ u) (ap (λ n. filter t (range_with_len n (count - next))) start ∙ rest)))))

-- what runs leave, in any order of the runs
pub left_are_free : (rs sorted : List JoinedNets) (count : ℕ) → IsPermutation rs sorted →
    filter (is_left sorted) (range_with_len 0 count) ≡ free_nets (flat_map joins_of_run rs) count
left_are_free rs sorted count same =
    filter_same (is_left sorted) (λ n. is_none (joined_with (flat_map joins_of_run rs) n)) (range_with_len 0 count)
    (λ n m.
    ap not (sym (list_any-IsPermutation (λ (r : JoinedNets). covers r n) rs sorted same) ∙ sym (runs_join rs n))
    ∙ none (joined_with (flat_map joins_of_run rs) n))
  where
    none : (o : Option ℕ) → not (is_some o) ≡ is_none o
    none (Some n) = refl
    none None = refl

-- one number more
pub range_to_more : (from n : ℕ) → from ≤ n → range_with_len from (n + 1 - from) ≡ range_with_len from (n - from) ++ n ∷ []
range_to_more from n le =
    let size : n + 1 - from ≡ (n - from) + 1 = omega (arith, le) in
    let last : from + (n - from) ≡ n = omega (arith, le) in
    ap (range_with_len from) size ∙ (range_split from (n - from) 1 ∙ ap (λ m. range_with_len from (n - from) ++ m ∷ []) last)
