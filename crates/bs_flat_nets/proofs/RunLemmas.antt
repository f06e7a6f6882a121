-- Which nets runs join.
use Rattle.std.proofs.Common.{◌≡◌, ℕ, zero, suc, ◌<◌, ◌≤◌, ◌+◌, ◌-◌, Bool, true, false, ◌&&◌, ◌||◌, List, [], ◌∷◌, ◌++◌, map, refl, arith, ap, sym, ◌∙◌}
use Rattle.std.proofs.Common.{nat_eq, nat_le, nat_lt, lt-ltb, zero-add, ⊎_elim}
use Rattle.std.specs.Prelude.{is_some, find, option_map}
use Rattle.std.specs.List.{range_with_len, flat_map, list_any}
use Rattle.std.proofs.lemmas.Bool.{false≢true, cases_Bool, and_parts, and_from, eqb-true, eqb-false, ltb-true, leb-true, le-leb}
use Rattle.std.proofs.Common.{cond, drop, length, get_or, Some, None}
use Rattle.std.proofs.lemmas.List.{drop_more, drop_all}
use Rattle.bs_flat_meaning.specs.Design.{Join}
use Rattle.bs_flat_meaning.specs.Meaning.{joined_with}
use Rattle.bs_flat_nets.specs.Blocks.{joins_of_run}
use Rattle.bs_flat_nets.specs.Constants.{covers}
use Rattle.bs_flat_nets.specs.declared.blocks.JoinedNets.{JoinedNets}
use Rattle.bs_flat_nets.proofs.JoinedLemmas.{joined_more}

joined_append : (xs ys : List Join) (n : ℕ) → is_some (joined_with (xs ++ ys) n) ≡ (is_some (joined_with xs n) || is_some (joined_with ys n))
joined_append [] ys n = refl
joined_append (x ∷ xs) ys n =
    joined_more x (xs ++ ys) n
    ∙ (ap (λ b. nat_eq x.inner.0 n || b) (joined_append xs ys n)
    ∙ (or_assoc (nat_eq x.inner.0 n) (is_some (joined_with xs n)) (is_some (joined_with ys n))
    ∙ ap (λ b. b || is_some (joined_with ys n)) (sym (joined_more x xs n))))
  where
    or_assoc : (p q r : Bool) → (p || (q || r)) ≡ ((p || q) || r)
    or_assoc true q r = refl
    or_assoc false q r = refl

-- the joins of a run from a place on
abbrev joins_from : ℕ → ℕ → ℕ → ℕ → List Join
joins_from inner outer a w = map (λ k. record { outer = record { 0 = outer + k }; inner = record { 0 = inner + k } }) (range_with_len a w)

from_place : (inner outer n a w : ℕ) → is_some (joined_with (joins_from inner outer a w) n) ≡ (nat_le (inner + a) n && nat_lt (n - inner) (a + w))
from_place inner outer n a zero =
    ⊎_elim
    (λ (t : (nat_le (inner + a) n && nat_lt (n - inner) (a + zero)) ≡ true).
    let both = and_parts (nat_le (inner + a) n) (nat_lt (n - inner) (a + zero)) t in
    let low = leb-true (inner + a) n both.0 in
    let high = ltb-true (n - inner) (a + zero) both.1 in
    absurd (omega (arith, low, high)))
    (λ (f : (nat_le (inner + a) n && nat_lt (n - inner) (a + zero)) ≡ false). sym f)
    (cases_Bool (nat_le (inner + a) n && nat_lt (n - inner) (a + zero)))
from_place inner outer n a (suc w) =
    joined_more (record { outer = record { 0 = outer + a }; inner = record { 0 = inner + a } }) (joins_from inner outer (a + 1) w) n
    ∙ (ap (λ b. nat_eq (inner + a) n || b) (from_place inner outer n (a + 1) w) ∙ by (nat_eq (inner + a) n) refl rest refl)
  where
    rest : Bool
    rest = nat_le (inner + (a + 1)) n && nat_lt (n - inner) ((a + 1) + w)

    all : Bool
    all = nat_le (inner + a) n && nat_lt (n - inner) (a + suc w)

    passes : inner + a ≤ n → n - inner < a + suc w → all ≡ true
    passes low high = and_from (nat_le (inner + a) n) (nat_lt (n - inner) (a + suc w)) (le-leb (inner + a) n low) (lt-ltb (n - inner) (a + suc w) high)

    by : (p : Bool) → nat_eq (inner + a) n ≡ p → (q : Bool) → rest ≡ q → (p || rest) ≡ all
    by true e q l = let same = eqb-true (inner + a) n e in sym (passes (omega (arith, same)) (omega (arith, same)))
    by false e true t =
        let both = and_parts (nat_le (inner + (a + 1)) n) (nat_lt (n - inner) ((a + 1) + w)) t in
        let low = leb-true (inner + (a + 1)) n both.0 in
        let high = ltb-true (n - inner) ((a + 1) + w) both.1 in
        t ∙ sym (passes (omega (arith, low)) (omega (arith, high)))
    by false e false f =
        let apart = eqb-false (inner + a) n e in
        ⊎_elim
        (λ (t : all ≡ true).
        let both = and_parts (nat_le (inner + a) n) (nat_lt (n - inner) (a + suc w)) t in
        let low = leb-true (inner + a) n both.0 in
        let high = ltb-true (n - inner) (a + suc w) both.1 in
        let in_rest : rest ≡ true =
        and_from (nat_le (inner + (a + 1)) n) (nat_lt (n - inner) ((a + 1) + w)) (le-leb (inner + (a + 1)) n (omega (arith, low, apart)))
        (lt-ltb (n - inner) ((a + 1) + w) (omega (arith, high))) in
        absurd (false≢true (sym f ∙ in_rest)))
        (λ (g : all ≡ false). f ∙ sym g)
        (cases_Bool all)

run_joins : (r : JoinedNets) (n : ℕ) → is_some (joined_with (joins_of_run r) n) ≡ covers r n
run_joins r n =
    let low : r.inner + 0 ≡ r.inner = omega arith in
    from_place r.inner r.outer n 0 r.width
    ∙ (ap (λ k. nat_le k n && nat_lt (n - r.inner) (0 + r.width)) low ∙ ap (λ k. nat_le r.inner n && nat_lt (n - r.inner) k) (zero-add r.width))

-- runs join a net where one of them covers it
pub runs_join : (rs : List JoinedNets) (n : ℕ) → is_some (joined_with (flat_map joins_of_run rs) n) ≡ list_any (λ r. covers r n) rs
runs_join [] n = refl
runs_join (r ∷ rs) n =
    joined_append (joins_of_run r) (flat_map joins_of_run rs) n
    ∙ (ap (λ b. b || is_some (joined_with (flat_map joins_of_run rs) n)) (run_joins r n) ∙ ap (λ b. covers r n || b) (runs_join rs n))

-- ---- with which net

joined_value : (j : Join) (js : List Join) (n : ℕ) → joined_with (j ∷ js) n ≡ cond (nat_eq j.inner.0 n) (Some j.outer.0) (joined_with js n)
joined_value j js n = by (nat_eq j.inner.0 n)
  where
    by : (b : Bool) → option_map (λ (k : Join). k.outer.0) (cond b (Some j) (find (λ (k : Join). nat_eq k.inner.0 n) js))
        ≡ cond b (Some j.outer.0) (joined_with js n)
    by true = refl
    by false = refl

joined_past : (xs ys : List Join) (n : ℕ) → is_some (joined_with xs n) ≡ false → joined_with (xs ++ ys) n ≡ joined_with ys n
joined_past [] ys n e = refl
joined_past (x ∷ xs) ys n e =
    joined_value x (xs ++ ys) n ∙ by (nat_eq x.inner.0 n) (sym (joined_more x xs n) ∙ e) (joined_past xs ys n)
  where
    by : (b : Bool) → (b || is_some (joined_with xs n)) ≡ false → (is_some (joined_with xs n) ≡ false → joined_with (xs ++ ys) n ≡ joined_with ys n) →
        cond b (Some x.outer.0) (joined_with (xs ++ ys) n) ≡ joined_with ys n
    by true q rest = absurd (false≢true (sym q))
    by false q rest = rest q

joined_front : (xs ys : List Join) (n m : ℕ) → joined_with xs n ≡ Some m → joined_with (xs ++ ys) n ≡ Some m
joined_front [] ys n m e = absurd cc
joined_front (x ∷ xs) ys n m e =
    joined_value x (xs ++ ys) n ∙ by (nat_eq x.inner.0 n) (sym (joined_value x xs n) ∙ e) (joined_front xs ys n m)
  where
    by : (b : Bool) → cond b (Some x.outer.0) (joined_with xs n) ≡ Some m → (joined_with xs n ≡ Some m → joined_with (xs ++ ys) n ≡ Some m) →
        cond b (Some x.outer.0) (joined_with (xs ++ ys) n) ≡ Some m
    by true q rest = q
    by false q rest = rest q

value_from : (inner outer n a w : ℕ) → inner + a ≤ n → n - inner < a + w → joined_with (joins_from inner outer a w) n ≡ Some (outer + (n - inner))
value_from inner outer n a zero low high = absurd (omega (arith, low, high))
value_from inner outer n a (suc w) low high =
    joined_value (record { outer = record { 0 = outer + a }; inner = record { 0 = inner + a } }) (joins_from inner outer (a + 1) w) n
    ∙ by (nat_eq (inner + a) n) refl (value_from inner outer n (a + 1) w)
  where
    by : (b : Bool) → nat_eq (inner + a) n ≡ b →
        (inner + (a + 1) ≤ n → n - inner < (a + 1) + w → joined_with (joins_from inner outer (a + 1) w) n ≡ Some (outer + (n - inner))) →
        cond b (Some (outer + a)) (joined_with (joins_from inner outer (a + 1) w) n) ≡ Some (outer + (n - inner))
    by true e rest =
        let same = eqb-true (inner + a) n e in
        let at : outer + a ≡ outer + (n - inner) = omega (arith, same) in
        ap Some at
    by false e rest = let apart = eqb-false (inner + a) n e in rest (omega (arith, low, apart)) (omega (arith, high))

-- what a run that covers a net says of it
pub record IsCovered (r : JoinedNets) (n : ℕ) : Type 0 where
  pub low : r.inner ≤ n
  pub high : n - r.inner < r.width

pub covered : (r : JoinedNets) (n : ℕ) → covers r n ≡ true → IsCovered r n
covered r n e =
    let both = and_parts (nat_le r.inner n) (nat_lt (n - r.inner) r.width) e in
    record { low = leb-true r.inner n both.0; high = ltb-true (n - r.inner) r.width both.1 }

run_value : (r : JoinedNets) (n : ℕ) → covers r n ≡ true → joined_with (joins_of_run r) n ≡ Some (r.outer + (n - r.inner))
run_value r n e = let c = covered r n e in value_from r.inner r.outer n 0 r.width (omega (arith, c.low)) (omega (arith, c.high))

-- the first run that covers a net says with which it is joined
pub runs_here : (rs : List JoinedNets) (i n : ℕ) (d : JoinedNets) → i < length rs → covers (get_or rs i d) n ≡ true →
    joined_with (flat_map joins_of_run (drop i rs)) n ≡ Some ((get_or rs i d).outer + (n - (get_or rs i d).inner))
runs_here rs i n d lt e =
    ap (λ (us : List JoinedNets). joined_with (flat_map joins_of_run us) n) (drop_more rs i d lt)
    ∙ joined_front (joins_of_run (get_or rs i d)) (flat_map joins_of_run (drop (i + 1) rs)) n _ (run_value (get_or rs i d) n e)

pub runs_past : (rs : List JoinedNets) (i n : ℕ) (d : JoinedNets) → i < length rs → covers (get_or rs i d) n ≡ false →
    joined_with (flat_map joins_of_run (drop i rs)) n ≡ joined_with (flat_map joins_of_run (drop (i + 1) rs)) n
runs_past rs i n d lt e =
    ap (λ (us : List JoinedNets). joined_with (flat_map joins_of_run us) n) (drop_more rs i d lt)
    ∙ joined_past (joins_of_run (get_or rs i d)) (flat_map joins_of_run (drop (i + 1) rs)) n (run_joins (get_or rs i d) n ∙ e)

pub runs_none : (rs : List JoinedNets) (i n : ℕ) → length rs ≤ i → joined_with (flat_map joins_of_run (drop i rs)) n ≡ None
runs_none rs i n le = ap (λ (us : List JoinedNets). joined_with (flat_map joins_of_run us) n) (drop_all i rs le)
