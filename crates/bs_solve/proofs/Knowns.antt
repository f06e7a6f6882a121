-- What is known of the lemmas, by rows and by entries.
use Rattle.std.proofs.Common.{◌≡◌, ℕ, zero, suc, ◌+◌, ◌≤◌, arith, Bool, true, not, ◌&&◌, ◌||◌, cond, List, [], ◌∷◌, ◌++◌, length, take}
use Rattle.std.proofs.Common.{refl, sym, ap, subst, ◌∙◌, inl, inr, Some, ltb, leb}
use Rattle.std.specs.Prelude.{All, Contains, slice_get, count_by}
use Rattle.std.proofs.lemmas.Bool.{le-leb}
use Rattle.std.proofs.lemmas.List.{take_all, take-append-le, length-append}
use Rattle.std.proofs.lemmas.List.Elements.{All-contains, filter-append}
use Rattle.std.proofs.lemmas.List.Sums.{sum_by-cons}
use Rattle.std.proofs.lemmas.List.Sorted.{list_any-IsPermutation, length_permutation}
use Rattle.bs_clause.specs.Literal.{Literal}
use Rattle.bs_clause.specs.Range.{HasVariables, IsWithin}
use Rattle.bs_log.specs.History.{Entry}
use Rattle.bs_log.specs.Refusal.{is_lemma, is_lemma_or_block}
use Rattle.bs_log.specs.Kept.{has_retired_activation, is_long}
use Rattle.bs_arena.specs.Arena.{Held, literals_at}
use Rattle.bs_solve_lemmas.specs.declared.row.LoggedClause.{LoggedClause}
use Rattle.bs_solve_lemmas.specs.Keeping.{over, entry_in, is_free_row, is_long_row, AreKnown, Ascends}
use Rattle.bs_solve_lemmas.specs.Rows.{IsRowOf, AreRowsOf, AreInOrder}
use Rattle.bs_solve_lemmas.proofs.Rules.{lemma_back}
use Rattle.bs_solve_lemmas.proofs.Deletions.{chain_of, chain_filter}
use Rattle.bs_solve_lemmas.proofs.Entries.{order_of}
use Rattle.bs_watch.proofs.Gets.{none_is_not_some, same_some}
use Rattle.bs_solve_lemmas.proofs.Clauses.{contains_first, cons_contains, contains_cases, nothing_in, all_from}
use Rattle.bs_solve.specs.Dropping.{marked, is_free, is_free_long, AreKnownIn}

-- ---- a row and its entry pass alike

row_free : (own steps : ℕ) (clauses : List Held) (row : LoggedClause) (e : Entry) → IsRowOf clauses row e → is_free_row own steps clauses row ≡ is_free own steps e
row_free own steps clauses row e r =
    ap (λ b. b && not (has_retired_activation (over own) steps (literals_at clauses row.clause))) (lemma_back clauses row ∙ r.lemma_is) ∙
    ap (λ b. is_lemma e && not b) (sym (list_any-IsPermutation (λ (l : Literal). ltb own l.variable && leb l.variable (own + steps)) e.literals
    (literals_at clauses row.clause) r.same))

row_long : (own steps : ℕ) (clauses : List Held) (row : LoggedClause) (e : Entry) → IsRowOf clauses row e →
    is_long_row own steps clauses row ≡ is_free_long own steps e
row_long own steps clauses row e r =
    ap (λ b. b && is_long (entry_in clauses row)) (row_free own steps clauses row e r) ∙
    ap (λ n. is_free own steps e && ltb 8 n) (length_permutation e.literals (literals_at clauses row.clause) r.same)

count_step : {X : Type 0} (f : X → Bool) (x : X) (xs : List X) → count_by f (x ∷ xs) ≡ cond (f x) 1 0 + count_by f xs
count_step f x xs = sum_by-cons (λ y. cond (f y) 1 0) x xs

count_rows : (own steps : ℕ) (clauses : List Held) (rows : List LoggedClause) (es : List Entry) (n : ℕ) → AreRowsOf clauses rows es →
    count_by (is_long_row own steps clauses) (take n rows) ≡ count_by (is_free_long own steps) (take n es)
count_rows own steps clauses rows es zero r = refl
count_rows own steps clauses [] [] (suc n) r = refl
count_rows own steps clauses [] (e ∷ es) (suc n) r = absurd r
count_rows own steps clauses (x ∷ rows) [] (suc n) r = absurd r
count_rows own steps clauses (x ∷ rows) (e ∷ es) (suc n) r =
    count_step (is_long_row own steps clauses) x (take n rows) ∙
    ap (λ b. cond b 1 0 + count_by (is_long_row own steps clauses) (take n rows)) (row_long own steps clauses x e r.0) ∙
    ap (λ k. cond (is_free_long own steps e) 1 0 + k) (count_rows own steps clauses rows es n r.1) ∙
    sym (count_step (is_free_long own steps) e (take n es))

pub length_rows : (clauses : List Held) (rows : List LoggedClause) (es : List Entry) → AreRowsOf clauses rows es → length rows ≡ length es
length_rows clauses [] [] r = refl
length_rows clauses [] (e ∷ es) r = absurd r
length_rows clauses (x ∷ rows) [] r = absurd r
length_rows clauses (x ∷ rows) (e ∷ es) r = ap (λ n. suc n) (length_rows clauses rows es r.1)

free_rows : (own steps : ℕ) (clauses : List Held) (rows : List LoggedClause) (es : List Entry) (n : ℕ) → AreRowsOf clauses rows es →
    ((e : Entry) → Contains (take n es) e → is_free own steps e ≡ true) → (x : LoggedClause) → Contains (take n rows) x → is_free_row own steps clauses x ≡ true
free_rows own steps clauses rows es zero r free x there = absurd (nothing_in x there)
free_rows own steps clauses [] [] (suc n) r free x there = absurd (nothing_in x there)
free_rows own steps clauses [] (e ∷ es) (suc n) r free x there = absurd r
free_rows own steps clauses (y ∷ rows) [] (suc n) r free x there = absurd r
free_rows own steps clauses (y ∷ rows) (e ∷ es) (suc n) r free x there = elim (contains_cases y (take n rows) x there) [
  | inl same ↦ subst (λ z. is_free_row own steps clauses z ≡ true) same
      (row_free own steps clauses y e r.0 ∙ free e (contains_first e (take n es)))
  | inr later ↦ free_rows own steps clauses rows es n r.1 (λ o c. free o (cons_contains e (take n es) o c)) x later
]

-- what is known of the entries is known of the rows
pub known_rows : (own steps : ℕ) (clauses : List Held) (rows : List LoggedClause) (es : List Entry) (n long : ℕ) → AreRowsOf clauses rows es →
    AreKnownIn own steps es n long → AreKnown own steps clauses rows n long
known_rows own steps clauses rows es n long r k = record {
  low = let h = length_rows clauses rows es r in let low = k.low in omega (arith, h, low);
  free = all_from (λ x. is_free_row own steps clauses x ≡ true) (take n rows)
      (free_rows own steps clauses rows es n r (λ e there. All-contains (λ o. is_free own steps o ≡ true) (take n es) e k.free there));
  counted = k.counted ∙ sym (count_rows own steps clauses rows es n r);
}

-- the rows' ids ascend with those of the entries
pub rows_ascend : (clauses : List Held) (rows : List LoggedClause) (es : List Entry) → AreInOrder es → AreRowsOf clauses (rows) (marked es) → Ascends rows
rows_ascend clauses rows es order r =
    ascend rows (marked es) r (order_of (marked es) (chain_filter is_lemma_or_block es (chain_of es order)))
  where
    entry_at : (rows : List LoggedClause) (fs : List Entry) → AreRowsOf clauses rows fs → (k : ℕ) (x : LoggedClause) → slice_get rows k ≡ Some x →
        (e : Entry) × (slice_get fs k ≡ Some e) × (x.id ≡ e.id)
    entry_at [] fs r k x at = absurd (none_is_not_some x at)
    entry_at (y ∷ rows) [] r k x at = absurd r
    entry_at (y ∷ rows) (e ∷ fs) r zero x at = (e, refl, ap (λ (z : LoggedClause). z.id) (sym (same_some y x at)) ∙ r.0.id_is)
    entry_at (y ∷ rows) (e ∷ fs) r (suc k) x at = entry_at rows fs r.1 k x at

    ascend : (rows : List LoggedClause) (fs : List Entry) → AreRowsOf clauses rows fs → AreInOrder fs → Ascends rows
    ascend rows fs r c = record {
      below = λ i j a b before at_i at_j.
          let (e, at_e, is_e) = entry_at rows fs r i a at_i in
          let (f, at_f, is_f) = entry_at rows fs r j b at_j in
          let less = c.below i j e f before at_e at_f in omega (arith, less, is_e, is_f);
    }

-- ---- more entries, and one more activation literal

pub known_grows : (own steps : ℕ) (es more : List Entry) (n long : ℕ) → AreKnownIn own steps (marked es) n long →
    AreKnownIn own steps (marked (es ++ more)) n long
known_grows own steps es more n long k =
    let low = k.low in
    let front : take n (marked (es ++ more)) ≡ take n (marked es) =
    ap (take n) (filter-append is_lemma_or_block es more) ∙ take-append-le n (marked es) (marked more) low in
    record {
      low = subst (λ fs. n ≤ length fs) (sym (filter-append is_lemma_or_block es more)) (longer (marked es) (marked more) low);
      free = subst (All (λ e. is_free own steps e ≡ true)) (sym front) k.free;
      counted = k.counted ∙ ap (count_by (is_free_long own steps)) (sym front);
    }
  where
    longer : (xs ys : List Entry) → n ≤ length xs → n ≤ length (xs ++ ys)
    longer xs ys h = let e = length-append xs ys in omega (arith, h, e)

-- an activation literal that no clause names
activation_free : (own steps : ℕ) (e : Entry) → HasVariables (own + steps) e.literals → is_free own (steps + 1) e ≡ is_free own steps e
activation_free own steps e range = ap (λ b. is_lemma e && not b) (by e.literals (λ l there. (All-contains (IsWithin (own + steps)) e.literals l range there).1))
  where
    same : (v : ℕ) → v ≤ own + steps → leb v (own + (steps + 1)) ≡ leb v (own + steps)
    same v h = le-leb v (own + (steps + 1)) (omega (arith, h)) ∙ sym (le-leb v (own + steps) h)

    by : (ls : List Literal) → ((l : Literal) → Contains ls l → l.variable ≤ own + steps) →
        has_retired_activation (over own) (steps + 1) ls ≡ has_retired_activation (over own) steps ls
    by [] all = refl
    by (l ∷ ls) all =
        ap (λ b. (ltb own l.variable && b) || has_retired_activation (over own) (steps + 1) ls) (same l.variable (all l (contains_first l ls))) ∙
        ap (λ b. (ltb own l.variable && leb l.variable (own + steps)) || b) (by ls (λ m there. all m (cons_contains l ls m there)))

pub known_with_activation : (own steps : ℕ) (fs : List Entry) (n long : ℕ) → ((e : Entry) → Contains fs e → HasVariables (own + steps) e.literals) →
    AreKnownIn own steps fs n long → AreKnownIn own (steps + 1) fs n long
known_with_activation own steps fs n long range k = record {
  low = k.low;
  free = all_from (λ e. is_free own (steps + 1) e ≡ true) (take n fs) (λ e there.
      activation_free own steps e (range e (taken fs n e there)) ∙ All-contains (λ o. is_free own steps o ≡ true) (take n fs) e k.free there);
  counted = k.counted ∙ counts (take n fs) (λ e there. activation_free own steps e (range e (taken fs n e there)));
}
  where
    taken : (xs : List Entry) (m : ℕ) (e : Entry) → Contains (take m xs) e → Contains xs e
    taken xs zero e there = absurd (nothing_in e there)
    taken [] (suc m) e there = there
    taken (x ∷ xs) (suc m) e there = elim (contains_cases x (take m xs) e there) [
      | inl same ↦ subst (Contains (x ∷ xs)) same (contains_first x xs)
      | inr later ↦ cons_contains x xs e (taken xs m e later)
    ]

    counts : (xs : List Entry) → ((e : Entry) → Contains xs e → is_free own (steps + 1) e ≡ is_free own steps e) →
        count_by (is_free_long own steps) xs ≡ count_by (is_free_long own (steps + 1)) xs
    counts [] same = refl
    counts (x ∷ xs) same =
        count_step (is_free_long own steps) x xs ∙
        ap (λ b. cond (b && is_long x) 1 0 + count_by (is_free_long own steps) xs) (sym (same x (contains_first x xs))) ∙
        ap (λ k. cond (is_free_long own (steps + 1) x) 1 0 + k) (counts xs (λ e there. same e (cons_contains x xs e there))) ∙
        sym (count_step (is_free_long own (steps + 1)) x xs)

-- ---- what is counted over all rows

pub counted_rows : (own steps : ℕ) (clauses : List Held) (rows : List LoggedClause) (es : List Entry) (long : ℕ) → AreRowsOf clauses rows es →
    long ≡ count_by (is_long_row own steps clauses) rows → long ≡ count_by (is_free_long own steps) es
counted_rows own steps clauses rows es long r is =
    is ∙ ap (count_by (is_long_row own steps clauses)) (sym (take_all (length rows) rows (omega arith))) ∙
    count_rows own steps clauses rows es (length rows) r ∙
    ap (count_by (is_free_long own steps)) (take_all (length rows) es (let h = length_rows clauses rows es r in omega (arith, h)))

pub counted_front : (own steps : ℕ) (clauses : List Held) (rows : List LoggedClause) (es fs : List Entry) (n m long : ℕ) → AreRowsOf clauses rows es →
    take n es ≡ take n fs → AreKnownIn own steps fs m long → n ≡ m → long ≡ count_by (is_long_row own steps clauses) (take n rows)
counted_front own steps clauses rows es fs n m long r front k same =
    k.counted ∙ ap (λ j. count_by (is_free_long own steps) (take j fs)) (sym same) ∙ ap (count_by (is_free_long own steps)) (sym front) ∙
    sym (count_rows own steps clauses rows es n r)
