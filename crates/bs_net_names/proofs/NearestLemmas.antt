-- The common front of two names, found by looking at one byte after another, and their common end, found so from behind.
use Rattle.std.proofs.Common.{◌≡◌, ℕ, suc, zero, ◌<◌, ◌≤◌, ◌-◌, true, false, cond, List, [], ◌∷◌, length, reverse, get_or, arith, ap, ◌∙◌, sym, subst, refl}
use Rattle.std.specs.Prelude.{◌==◌, nat_lt}
use Rattle.std.proofs.lemmas.Bool.{eqb-true, eqb-false, ltb-true, ltb-false}
use Rattle.std.proofs.lemmas.List.{get_or-reverse, length-reverse}
use Rattle.std.proofs.Common.{inl, inr, Bool, ◌++◌, ◌+◌}
use Rattle.std.specs.Bool.{MatchBool}
use Rattle.std.specs.List.{All, Contains}
use Rattle.std.specs.List.Sorted.{IsStrictlyIncreasing}
use Rattle.std.proofs.lemmas.List.{get_or_push, get_or_append_left, length_push}
use Rattle.std.proofs.lemmas.List.Elements.{All-append, Contains-append_left, Contains-push, All-weaker}
use Rattle.bs_net.specs.Parts.{Parts}
use Rattle.bs_net_names.specs.declared.nearest.TheConstants.{NAMED}
use Rattle.bs_net_names.specs.Nearest.{common, flop_apart, IsNearest, IsFirstNearest, IsListed, AreNearest, AreNearestBelow}

-- so many bytes are the same, and behind them is an end or another byte
pub common_is : (a b : List ℕ) (n : ℕ) → n ≤ length a → n ≤ length b → ((k : ℕ) → k < n → (get_or a k 0 == get_or b k 0) ≡ true) →
    (n < length a → n < length b → (get_or a n 0 == get_or b n 0) ≡ false) → n ≡ common a b
common_is [] b n left right same end = omega (arith, left)
common_is (x ∷ xs) [] n left right same end = omega (arith, right)
common_is (x ∷ xs) (y ∷ ys) zero left right same end = sym (ap (λ t. cond t (suc (common xs ys)) 0) (end (omega arith) (omega arith)))
common_is (x ∷ xs) (y ∷ ys) (suc n) left right same end =
    ap suc (common_is xs ys n (omega arith) (omega arith) (λ k lt. same (suc k) (omega arith)) (λ p q. end (omega arith) (omega arith)))
    ∙ sym (ap (λ t. cond t (suc (common xs ys)) 0) (same 0 (omega arith)))

from_end : (a b : List ℕ) (k : ℕ) (t : _) → k < length a → k < length b → (get_or a (length a - 1 - k) 0 == get_or b (length b - 1 - k) 0) ≡ t →
    (get_or (reverse a) k 0 == get_or (reverse b) k 0) ≡ t
from_end a b k t left right is = rw (get_or-reverse a k 0 left, get_or-reverse b k 0 right) is

-- the same from behind
pub common_end_is : (a b : List ℕ) (n : ℕ) → n ≤ length a → n ≤ length b →
    ((k : ℕ) → k < n → (get_or a (length a - 1 - k) 0 == get_or b (length b - 1 - k) 0) ≡ true) →
    (n < length a → n < length b → (get_or a (length a - 1 - n) 0 == get_or b (length b - 1 - n) 0) ≡ false) → n ≡ common (reverse a) (reverse b)
common_end_is a b n left right same end =
    common_is (reverse a) (reverse b) n (omega (arith, length-reverse a)) (omega (arith, length-reverse b))
    (λ k lt. from_end a b k true (omega arith) (omega arith) (same k lt))
    (λ p q. from_end a b n false (omega (arith, length-reverse a)) (omega (arith, length-reverse b)) (end (omega (arith, length-reverse a)) (omega
    (arith, length-reverse b))))

-- ---- the nearest, one flip-flop after another

one : (P : ℕ → Type 0) (x : ℕ) → P x → All P (x ∷ [])
one P x p k d lt = single k lt
  where
    single : (k : ℕ) → k < 1 → P (get_or (x ∷ []) k d)
    single zero lt = p
    single (suc k) lt = absurd (omega (arith, lt))

-- the first nearest one stands alone
pub below_start : (r : Parts) (name : List ℕ) (first : ℕ) → IsFirstNearest r name first → AreNearestBelow r name (first + 1) (first ∷ [])
below_start r name first h = record {
  few = omega arith;
  nearest = one (IsNearest r name) first h.is;
  some = omega arith;
  in_order = λ k lt. absurd (omega (arith, lt));
  before = one (λ flop. flop < first + 1) first (omega arith);
  all = λ flop lt near. by flop near (flop == first) refl (omega arith);
}
  where
    by : (flop : ℕ) → IsNearest r name flop → (b : _) → (flop == first) ≡ b → flop ≤ first → IsListed (first ∷ []) flop
    by flop near true same lt = inl (subst (λ (k : ℕ). Contains (first ∷ []) k) (sym (eqb-true flop first same)) (Contains-push [] first))
    by flop near false other lt =
        let earlier : flop < first = omega (arith, lt, eqb-false flop first other) in
        absurd (omega (arith, h.first flop earlier, near.least first h.is.there))

all_later : (flop : ℕ) (flops : List ℕ) → All (λ k. k < flop) flops → All (λ k. k < flop + 1) flops
all_later flop flops before = All-weaker (λ k. k < flop) (λ k. k < flop + 1) (λ k lt. omega (arith, lt)) flops before

-- one that is not listed, since there are as many as are named
pub below_full : (r : Parts) (name : List ℕ) (flop : ℕ) (flops : List ℕ) → AreNearestBelow r name flop flops → NAMED ≤ length flops →
    AreNearestBelow r name (flop + 1) flops
below_full r name flop flops h full = record {
  few = h.few;
  nearest = h.nearest;
  some = h.some;
  in_order = h.in_order;
  before = all_later flop flops h.before;
  all = λ other lt near. by other near (other == flop) refl (omega arith);
}
  where
    by : (other : ℕ) → IsNearest r name other → (b : _) → (other == flop) ≡ b → other ≤ flop → IsListed flops other
    by other near true same lt =
        inr (omega (arith, full, h.few), subst (λ (k : ℕ). All (λ x. x < k) flops) (sym (eqb-true other flop same)) h.before)
    by other near false apart lt = h.all other (omega (arith, lt, eqb-false other flop apart)) near

-- one that is farther
pub below_far : (r : Parts) (name : List ℕ) (first flop : ℕ) (flops : List ℕ) → IsNearest r name first → AreNearestBelow r name flop flops →
    flop_apart r name first < flop_apart r name flop → AreNearestBelow r name (flop + 1) flops
below_far r name first flop flops is h far = record {
  few = h.few;
  nearest = h.nearest;
  some = h.some;
  in_order = h.in_order;
  before = all_later flop flops h.before;
  all = λ other lt near. by other near (other == flop) refl (omega arith);
}
  where
    farther : (other : ℕ) → IsNearest r name other → other ≡ flop → ⊥
    farther other near same =
        let too_near : flop_apart r name flop ≤ flop_apart r name first =
        subst (λ (k : ℕ). flop_apart r name k ≤ flop_apart r name first) same (near.least first is.there) in
        omega (arith, far, too_near)

    by : (other : ℕ) → IsNearest r name other → (b : _) → (other == flop) ≡ b → other ≤ flop → IsListed flops other
    by other near true same lt = absurd (farther other near (eqb-true other flop same))
    by other near false apart lt = h.all other (omega (arith, lt, eqb-false other flop apart)) near

increasing_more : (flops : List ℕ) (flop : ℕ) → IsStrictlyIncreasing flops → All (λ k. k < flop) flops → IsStrictlyIncreasing (flops ++ flop ∷ [])
increasing_more flops flop up before k lt = by (nat_lt (k + 1) (length flops)) refl
  where
    short : k + 1 ≤ length flops
    short = omega (arith, lt, length_push flops flop)

    left : get_or (flops ++ flop ∷ []) k 0 ≡ get_or flops k 0
    left = get_or_append_left flops (flop ∷ []) 0 k (omega (arith, short))

    by : (b : _) → nat_lt (k + 1) (length flops) ≡ b → get_or (flops ++ flop ∷ []) k 0 < get_or (flops ++ flop ∷ []) (k + 1) 0
    by true inside =
        let within = ltb-true (k + 1) (length flops) inside in
        rw (left, get_or_append_left flops (flop ∷ []) 0 (k + 1) within) (up k within)
    by false outside =
        let at_end : length flops ≡ k + 1 = omega (arith, short, ltb-false (k + 1) (length flops) outside) in
        rw (left, get_or_push flops flop 0 (k + 1) at_end) (before k 0 (omega (arith, short)))

-- one more
pub below_more : (r : Parts) (name : List ℕ) (flop : ℕ) (flops : List ℕ) → AreNearestBelow r name flop flops → length flops < NAMED →
    IsNearest r name flop → AreNearestBelow r name (flop + 1) (flops ++ flop ∷ [])
below_more r name flop flops h room is = record {
  few = omega (arith, room, length_push flops flop);
  nearest = All-append (IsNearest r name) flops (flop ∷ []) h.nearest (one (IsNearest r name) flop is);
  some = omega (arith, length_push flops flop);
  in_order = increasing_more flops flop h.in_order h.before;
  before = All-append (λ k. k < flop + 1) flops (flop ∷ []) (all_later flop flops h.before) (one (λ k. k < flop + 1) flop (omega arith));
  all = λ other lt near. by other near (other == flop) refl (omega arith);
}
  where
    listed : (other : ℕ) → IsListed flops other → Contains (flops ++ flop ∷ []) other
    listed other (inl in_it) = Contains-append_left flops (flop ∷ []) other in_it
    listed other (inr full) = absurd (omega (arith, room, full.0))

    by : (other : ℕ) → IsNearest r name other → (b : _) → (other == flop) ≡ b → other ≤ flop → IsListed (flops ++ flop ∷ []) other
    by other near true same lt =
        inl (subst (λ (k : ℕ). Contains (flops ++ flop ∷ []) k) (sym (eqb-true other flop same)) (Contains-push flops flop))
    by other near false apart lt = inl (listed other (h.all other (omega (arith, lt, eqb-false other flop apart)) near))

-- one that is farther, by a test
pub like_far : (r : Parts) (name : List ℕ) (first flop : ℕ) (flops : List ℕ) (like : Bool) →
    MatchBool like (IsNearest r name flop) (flop_apart r name first < flop_apart r name flop) → like ≡ false → IsNearest r name first →
    AreNearestBelow r name flop flops → AreNearestBelow r name (flop + 1) flops
like_far r name first flop flops false far is near h = below_far r name first flop flops near h far
like_far r name first flop flops true like is near h = absurd cc

-- one more, by a test
pub like_more : (r : Parts) (name : List ℕ) (first flop : ℕ) (flops pushed : List ℕ) (like : Bool) →
    MatchBool like (IsNearest r name flop) (flop_apart r name first < flop_apart r name flop) → like ≡ true → length flops < NAMED →
    AreNearestBelow r name flop flops → pushed ≡ flops ++ flop ∷ [] → AreNearestBelow r name (flop + 1) pushed
like_more r name first flop flops pushed true near is room h put =
    subst (λ (l : List ℕ). AreNearestBelow r name (flop + 1) l) (sym put) (below_more r name flop flops h room near)
like_more r name first flop flops pushed false far is room h put = absurd cc

-- the nearest of all
pub all_below : (r : Parts) (name : List ℕ) (flops : List ℕ) → AreNearestBelow r name (length r.flops) flops → AreNearest r name flops
all_below r name flops h = record {
  few = h.few;
  nearest = h.nearest;
  some = λ any. h.some;
  in_order = h.in_order;
  all = λ flop near. h.all flop near.there near;
}

pub none_nearest : (r : Parts) (name : List ℕ) → length r.flops ≡ 0 → AreNearest r name []
none_nearest r name none = record {
  few = omega arith;
  nearest = λ k d lt. absurd (omega (arith, lt));
  some = λ any. absurd (omega (arith, any, none));
  in_order = λ k lt. absurd (omega (arith, lt));
  all = λ flop near. absurd (omega (arith, near.there, none));
}
