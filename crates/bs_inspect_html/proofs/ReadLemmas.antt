-- The items of a signature, one after another.
use Rattle.std.proofs.Common.{◌≡◌, ℕ, zero, suc, arith, refl, Bool, false, ◌≤◌, ◌+◌, ◌-◌, ◌||◌, slice_get, Some, List, [], ◌∷◌, ◌++◌, length, map, get_or, ap, sym, ◌∙◌, append_assoc}
use Rattle.std.specs.Prelude.{slice_index_or}
use Rattle.std.specs.List.{list_any, range_with_len}
use Rattle.std.proofs.lemmas.Option.{get_or_from_slice_get}
use Rattle.bs_inspect_report.proofs.PieceLemmas.{placed_more}
use Rattle.bs_inspect_html.specs.Reads.{has_flop, is_read}

-- an item that is there
pub item_there : (items : List (List ℕ)) (i place : ℕ) (item : List ℕ) → slice_get items i ≡ Some item →
    has_flop item place ≡ has_flop (slice_index_or items i []) place
item_there items i place item e = ap (λ (its : List ℕ). has_flop its place) (sym (get_or_from_slice_get items i item [] e))

past : (items : List (List ℕ)) (i : ℕ) → length items ≤ i → get_or items i [] ≡ []
past [] i le = refl
past (x ∷ xs) zero le = absurd (omega (arith, le))
past (x ∷ xs) (suc i) le = past xs i (omega (arith, le))

-- behind the last item there is none
pub item_past : (items : List (List ℕ)) (i place : ℕ) → length items ≤ i → false ≡ has_flop (slice_index_or items i []) place
item_past items i place le = sym (ap (λ (its : List ℕ). has_flop its place) (past items i le))

-- the item behind others
item_at : (front : List (List ℕ)) (x : List ℕ) (xs : List (List ℕ)) → get_or (front ++ x ∷ xs) (length front) [] ≡ x
item_at [] x xs = refl
item_at (f ∷ front) x xs = item_at front x xs

abbrev test : (List ℕ → Bool) → List (List ℕ) → ℕ → Bool
test t its i = t (get_or its i [])

one_more : (front : List (List ℕ)) (x : List ℕ) → length (front ++ x ∷ []) ≡ length front + 1
one_more [] x = refl
one_more (y ∷ front) x = let e = one_more front x in omega (arith, e)

any_one_more : (t : List ℕ → Bool) (front : List (List ℕ)) (x : List ℕ) (xs : List (List ℕ)) →
    list_any (test t ((front ++ x ∷ []) ++ xs)) (range_with_len (length (front ++ x ∷ [])) (length xs)) ≡ list_any t xs →
    list_any (test t (front ++ x ∷ xs)) (range_with_len (length front) (length (x ∷ xs))) ≡ list_any t (x ∷ xs)
any_one_more t front x xs e = λ i. own i || rest i
  where
    own : test t (front ++ x ∷ xs) (length front) ≡ t x
    own = ap t (item_at front x xs)

    whole :
        list_any (test t ((front ++ x ∷ []) ++ xs)) (range_with_len (length (front ++ x ∷ [])) (length xs))
        ≡ list_any (test t (front ++ x ∷ xs)) (range_with_len (length front + 1) (length xs))
    whole = λ i. list_any (test t (append_assoc front (x ∷ []) xs i)) (range_with_len (one_more front x i) (length xs))

    rest : list_any (test t (front ++ x ∷ xs)) (range_with_len (length front + 1) (length xs)) ≡ list_any t xs
    rest = sym whole ∙ e

any_behind : (t : List ℕ → Bool) (front xs : List (List ℕ)) →
    list_any (test t (front ++ xs)) (range_with_len (length front) (length xs)) ≡ list_any t xs
any_behind t front [] = refl
any_behind t front (x ∷ xs) = any_one_more t front x xs (any_behind t (front ++ x ∷ []) xs)

-- some item by its number, and some item
pub any_item : (items : List (List ℕ)) (place : ℕ) →
    list_any (λ i. has_flop (slice_index_or items i []) place) (range_with_len 0 (length items)) ≡ is_read items place
any_item items place = any_behind (λ item. has_flop item place) [] items

-- a flip-flop more
pub reads_more : (items : List (List ℕ)) (n : ℕ) (bits after : List Bool) (b : Bool) → bits ≡ map (is_read items) (range_with_len 0 n) →
    b ≡ is_read items n → after ≡ bits ++ b ∷ [] → after ≡ map (is_read items) (range_with_len 0 (n + 1))
reads_more items n bits after b e f g = placed_more (is_read items) n bits after b e f g
