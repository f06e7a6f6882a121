-- Numbers that are tried, one after another.
use Rattle.std.proofs.Common.{◌≡◌, ℕ, zero, suc, ◌<◌, ◌+◌, Bool, true, false, cond, List, [], ◌∷◌, ◌++◌, length, take, get_or, ap, sym, subst, ◌∙◌, arith, max}
use Rattle.std.specs.Prelude.{All, filter, nat_le, nat_lt}
use Rattle.std.proofs.lemmas.List.Elements.{All-append, All-filter, filter_more}
use Rattle.bs_scan.specs.declared.choice.TheConstants.{MAX_ITEMS}
use Rattle.bs_inspect_signature.specs.Tried.{last_tried, numbers, tried}

pub below_more : (width : ℕ) (all before after : List ℕ) (i d : ℕ) → i < length all → before ≡ filter (λ n. nat_lt n width) (take i all) →
    after ≡ before ++ cond (nat_lt (get_or all i d) width) (get_or all i d ∷ []) [] → after ≡ filter (λ n. nat_lt n width) (take (i + 1) all)
below_more width all before after i d lt e goes =
    goes
    ∙ (ap (λ (t : List ℕ). t ++ cond (nat_lt (get_or all i d) width) (get_or all i d ∷ []) []) e
    ∙ sym (filter_more (λ (n : ℕ). nat_lt n width) all i d lt))

some_numbers : All (λ n. 0 < n) numbers
some_numbers zero d lt = omega arith
some_numbers (suc zero) d lt = omega arith
some_numbers (suc (suc zero)) d lt = omega arith
some_numbers (suc (suc (suc zero))) d lt = omega arith
some_numbers (suc (suc (suc (suc zero)))) d lt = omega arith
some_numbers (suc (suc (suc (suc (suc zero))))) d lt = omega arith
some_numbers (suc (suc (suc (suc (suc (suc zero)))))) d lt = omega arith
some_numbers (suc (suc (suc (suc (suc (suc (suc zero))))))) d lt = omega arith
some_numbers (suc (suc (suc (suc (suc (suc (suc (suc zero)))))))) d lt = omega arith
some_numbers (suc (suc (suc (suc (suc (suc (suc (suc (suc k))))))))) d lt = absurd (omega (arith, lt))

last_some : (width : ℕ) → All (λ n. 0 < n) (last_tried width)
last_some width = by (nat_le width MAX_ITEMS)
  where
    alone : (k : ℕ) (d : ℕ) → k < 1 → 0 < get_or (max width 1 ∷ []) k d
    alone zero d lt = omega arith
    alone (suc k) d lt = absurd (omega (arith, lt))

    by : (b : Bool) → All (λ n. 0 < n) (cond b (max width 1 ∷ []) [])
    by true = λ k d lt. alone k d lt
    by false = λ k d lt. absurd (omega (arith, lt))

-- none of them is 0
pub some_tried : (width : ℕ) (own : List ℕ) (i d : ℕ) → own ≡ tried width → i < length own → 0 < get_or own i d
some_tried width own i d e lt = (subst (All (λ n. 0 < n)) (sym e) all) i d lt
  where
    all : All (λ n. 0 < n) (tried width)
    all =
        All-append (λ (n : ℕ). 0 < n) (filter (λ n. nat_lt n width) numbers) (last_tried width)
        (All-filter (λ (n : ℕ). nat_lt n width) (λ (n : ℕ). 0 < n) numbers some_numbers) (last_some width)
