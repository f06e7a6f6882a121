-- Candidates in order, each another state, ascend.
use Rattle.std.proofs.Common.{◌≡◌, ℕ, suc, zero, ◌<◌, Bool, true, false, List, [], ◌∷◌, length, get_or, refl, ap, subst, sym, ◌∙◌, arith}
use Rattle.std.specs.Prelude.{Result, Ok, Err, IfOk}
use Rattle.std.specs.List.{IsDistinct}
use Rattle.std.specs.List.Sorted.{IsPermutation, IsSortedBy}
use Rattle.std.specs.Ordering.{is_lt}
use Rattle.std.specs.declared.cmp.Ordering.TheVariants.{Less}
use Rattle.std.specs.Cmp.{bool_cmp_total, IsStrictWeakOrder}
use Rattle.std.specs.Cmp.Lexicographic.{lists_total}
use Rattle.std.proofs.lemmas.Bool.{true≢false}
use Rattle.std.proofs.lemmas.List.Sorted.{IsPermutation-map, ranks_by, sorted_far}
use Rattle.std.proofs.lemmas.Map.Keys.{IsDistinct-head, IsDistinct-tail, IsDistinct-IsPermutation}
use Rattle.bs_bits.specs.Bits.{bits_eq, bits_cmp}
use Rattle.bs_report.specs.declared.report.Cand.{Cand}
use Rattle.bs_report.specs.Step.{listed, Ascend}
use Rattle.bs_report.specs.Valid.{no_cand}
use Rattle.bs_report.proofs.ValidLemmas.{state_at_place}
use Rattle.std.proofs.lemmas.List.{length-map}
use Rattle.std.proofs.lemmas.List.Elements.{All-from_recursion}
use Rattle.bs_preimage.specs.Order.{IsInOrder}
use Rattle.bs_preimage.proofs.FindingLemmas.{flips}

pub if_ok : {A E : Type 0} (r : Result A E) (P Q : A → Type 0) → ((a : A) → P a → Q a) → IfOk r P → IfOk r Q
if_ok (Ok a) P Q f h = f a h
if_ok (Err e) P Q f h = tt

abbrev pub by_state : Cand → Cand → Bool
by_state a b = is_lt (bits_cmp a.state b.state)

-- the order of states
pub state_order : IsStrictWeakOrder by_state
state_order = ranks_by (lists_total bool_cmp_total) (λ (c : Cand). c.state)

pub in_order_by : (found sorted cands : List Cand) → IsPermutation found sorted → IsSortedBy (λ a b. is_lt (bits_cmp a.state b.state)) sorted →
    cands ≡ sorted → IsInOrder found cands
in_order_by found sorted cands perm up same =
    record {
      same = subst (IsPermutation found) (sym same) perm;
      ascends =
          subst (IsSortedBy (λ (a : Cand) (b : Cand). is_lt (bits_cmp a.state b.state))) (sym same) up;
    }

-- a state that is not greater than another one is less
less_of : (x y : List Bool) → is_lt (bits_cmp y x) ≡ false → bits_eq x y ≡ false → bits_cmp x y ≡ Less
less_of [] [] e f = absurd (true≢false f)
less_of [] (b ∷ y) e f = refl
less_of (b ∷ x) [] e f = absurd (true≢false e)
less_of (false ∷ x) (false ∷ y) e f = less_of x y e f
less_of (false ∷ x) (true ∷ y) e f = refl
less_of (true ∷ x) (false ∷ y) e f = absurd (true≢false e)
less_of (true ∷ x) (true ∷ y) e f = less_of x y e f

apart_at : (xs : List (List Bool)) → IsDistinct bits_eq xs → (i j : ℕ) (d : List Bool) → i < j → j < length xs → bits_eq (get_or xs i d) (get_or xs j d) ≡ false
apart_at [] a i j d lt le = absurd (omega arith)
apart_at (x ∷ xs) a i zero d lt le = absurd (omega arith)
apart_at (x ∷ xs) a zero (suc j) d lt le = All-from_recursion (λ y. bits_eq x y ≡ false) xs (IsDistinct-head bits_eq x xs a) j d (omega arith)
apart_at (x ∷ xs) a (suc i) (suc j) d lt le = apart_at xs (IsDistinct-tail bits_eq x xs a) i j d (omega arith) (omega arith)

pub in_order_ascend : (found cands : List Cand) → IsInOrder found cands → IsDistinct bits_eq (listed found) → Ascend (listed cands)
in_order_ascend found cands o apart i j d lt le =
    let apart_now : IsDistinct bits_eq (listed cands) =
    IsDistinct-IsPermutation bits_eq flips (listed found) (listed cands) (IsPermutation-map (λ (c : Cand). c.state) found cands o.same) apart in
    let long : j < length cands = omega (arith, le, length-map cands (λ (c : Cand). c.state)) in
    let a : get_or (listed cands) i d ≡ (get_or cands i no_cand).state = state_at_place cands i d (omega arith) in
    let b : get_or (listed cands) j d ≡ (get_or cands j no_cand).state = state_at_place cands j d le in
    less_of (get_or (listed cands) i d) (get_or (listed cands) j d)
    (ap is_lt (λ k. bits_cmp (b k) (a k)) ∙ sorted_far by_state state_order cands o.ascends i j no_cand (omega arith) long)
    (apart_at (listed cands) apart_now i j d lt le)
