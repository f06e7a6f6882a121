-- The rule of kept lemmas, by the number of long lemmas that stand before one.
use Rattle.std.proofs.Common.{◌≡◌, ℕ, zero, suc, ◌+◌, ◌-◌, ◌<◌, ◌≤◌, arith, Bool, true, false, not, ◌&&◌, ◌||◌, cond, List, [], ◌∷◌, ◌++◌, map}
use Rattle.std.proofs.Common.{length, take, get_or, refl, sym, ap, ◌∙◌, inl, inr, Some, ltb, leb}
use Rattle.std.specs.Prelude.{slice_get, count_by, All}
use Rattle.std.specs.List.{filter, list_any}
use Rattle.std.proofs.lemmas.Bool.{cases_lt, lt-ltb, lt-leb, le-leb, and_from}
use Rattle.std.proofs.lemmas.List.{map-append, append_assoc, append-nil}
use Rattle.std.proofs.lemmas.List.Sums.{sum_by-cons}
use Rattle.std.proofs.lemmas.Option.{get_or_from_slice_get, slice_get_read}
use Rattle.std.proofs.lemmas.List.{get_or_default}
use Rattle.bs_clause.specs.Literal.{Literal}
use Rattle.bs_arena.specs.Arena.{Held, literal_of, literals_at}
use Rattle.bs_log.specs.declared.origin.Origin.TheVariants.{Learnt, Blocked}
use Rattle.bs_log.specs.Refusal.{is_lemma}
use Rattle.bs_log.specs.History.{Entry}
use Rattle.bs_log.specs.Kept.{is_free_lemma, is_long, newer_long}
use Rattle.bs_watch.proofs.Gets.{none_is_not_some, same_some, get_take, get_within, get_map}
use Rattle.bs_solve_lemmas.specs.declared.row.LoggedClause.{LoggedClause}
use Rattle.bs_solve_lemmas.specs.Keeping.{over, entry_in, is_free_row, is_long_row, stays, goes, Ascends, AreKnown, watched_in}
use Rattle.bs_solve_lemmas.specs.Notes.{IsNoted}

-- ---- counts

abbrev pub digit : Bool → ℕ
digit b = cond b 1 0

pub count_cons : {X : Type 0} (f : X → Bool) (x : X) (xs : List X) → count_by f (x ∷ xs) ≡ digit (f x) + count_by f xs
count_cons f x xs = sum_by-cons (λ y. cond (f y) 1 0) x xs

count_map : {X Y : Type 0} (f : Y → Bool) (h : X → Y) (xs : List X) → count_by f (map h xs) ≡ count_by (λ x. f (h x)) xs
count_map f h [] = refl
count_map f h (x ∷ xs) =
    count_cons f (h x) (map h xs) ∙ ap (λ n. digit (f (h x)) + n) (count_map f h xs) ∙ sym (count_cons (λ y. f (h y)) x xs)

-- what passes the first test past a place, and the second one before it
pub count_split : {X : Type 0} (g f : X → Bool) (xs : List X) (n : ℕ) → ((j : ℕ) (x : X) → j < n → slice_get xs j ≡ Some x → g x ≡ false) →
    ((j : ℕ) (x : X) → n ≤ j → slice_get xs j ≡ Some x → g x ≡ f x) → count_by g xs + count_by f (take n xs) ≡ count_by f xs
count_split g f [] n off on = empty n
  where
    empty : (m : ℕ) → count_by g [] + count_by f (take m []) ≡ count_by f []
    empty zero = refl
    empty (suc m) = refl
count_split g f (x ∷ xs) zero off on =
    let here : digit (g x) ≡ digit (f x) = ap digit (on 0 x (omega arith) refl) in
    let rest : count_by g xs + count_by f (take 0 xs) ≡ count_by f xs =
    count_split g f xs zero (λ j y h e. absurd (omega (arith, h))) (λ j y h e. on (suc j) y (omega arith) e) in
    let nothing : count_by f (take 0 xs) ≡ 0 = refl in
    let nothing_here : count_by f (take 0 (x ∷ xs)) ≡ 0 = refl in
    omega (arith, here, rest, nothing, nothing_here, count_cons g x xs, count_cons f x xs)
count_split g f (x ∷ xs) (suc n) off on =
    let here : digit (g x) ≡ 0 = ap digit (off 0 x (omega arith) refl) in
    let rest : count_by g xs + count_by f (take n xs) ≡ count_by f xs =
    count_split g f xs n (λ j y h e. off (suc j) y (omega (arith, h)) e) (λ j y h e. on (suc j) y (omega (arith, h)) e) in
    omega (arith, here, rest, count_cons g x xs, count_cons f x xs, count_cons f x (take n xs))

pub count_push : {X : Type 0} (f : X → Bool) (xs : List X) (k : ℕ) (x : X) → slice_get xs k ≡ Some x →
    count_by f (take (suc k) xs) ≡ digit (f x) + count_by f (take k xs)
count_push f [] k x e = absurd (none_is_not_some x e)
count_push f (y ∷ xs) zero x e = count_cons f y [] ∙ ap (λ z. digit (f z) + 0) (same_some y x e)
count_push f (y ∷ xs) (suc k) x e =
    let rest : count_by f (take (suc k) xs) ≡ digit (f x) + count_by f (take k xs) = count_push f xs k x e in
    omega (arith, rest, count_cons f y (take (suc k) xs), count_cons f y (take k xs))

pub filter_push : {X : Type 0} (f : X → Bool) (xs : List X) (k : ℕ) (x : X) → slice_get xs k ≡ Some x →
    filter f (take (suc k) xs) ≡ filter f (take k xs) ++ cond (f x) (x ∷ []) []
filter_push f [] k x e = absurd (none_is_not_some x e)
filter_push f (y ∷ xs) zero x e = ap (λ z. cond (f z) (z ∷ []) []) (same_some y x e)
filter_push f (y ∷ xs) (suc k) x e = by (f y) (filter_push f xs k x e)
  where
    by : (b : Bool) → filter f (take (suc k) xs) ≡ filter f (take k xs) ++ cond (f x) (x ∷ []) [] →
        cond b (y ∷ filter f (take (suc k) xs)) (filter f (take (suc k) xs)) ≡
        cond b (y ∷ filter f (take k xs)) (filter f (take k xs)) ++ cond (f x) (x ∷ []) []
    by true rest = ap (λ r. y ∷ r) rest
    by false rest = rest

pub filter_none : {X : Type 0} (f : X → Bool) (xs : List X) → ((k : ℕ) (x : X) → slice_get xs k ≡ Some x → f x ≡ false) → filter f xs ≡ []
filter_none f [] off = refl
filter_none f (x ∷ xs) off =
    ap (λ b. cond b (x ∷ filter f xs) (filter f xs)) (off 0 x refl) ∙ filter_none f xs (λ k y e. off (suc k) y e)

-- ---- the rule

and_off : (a b c : Bool) → c ≡ false → (a && b && c) ≡ false
and_off true true c e = e
and_off true false c e = refl
and_off false true c e = refl
and_off false false c e = refl

and_on : (a b c : Bool) → c ≡ true → (a && b && c) ≡ (a && b)
and_on true true c e = e
and_on true false c e = refl
and_on false true c e = refl
and_on false false c e = refl

-- how many long lemmas are newer than the one in a place
newer_by_place : (own steps : ℕ) (clauses : List Held) (rows : List LoggedClause) (k : ℕ) (row : LoggedClause) → Ascends rows → slice_get rows k ≡ Some row →
    newer_long (over own) steps (map (entry_in clauses) rows) (entry_in clauses row) +
    count_by (is_long_row own steps clauses) (take (suc k) rows) ≡ count_by (is_long_row own steps clauses) rows
newer_by_place own steps clauses rows k row ascends at =
    ap (λ n. n + count_by (is_long_row own steps clauses) (take (suc k) rows)) (count_map newer (entry_in clauses) rows) ∙
    count_split (λ r. newer (entry_in clauses r)) (is_long_row own steps clauses) rows (suc k)
    (λ j r below there. and_off (is_free_row own steps clauses r) (is_long (entry_in clauses r)) (ltb row.id r.id) (older j r (omega (arith, below)) there))
    (λ j r above there. and_on (is_free_row own steps clauses r) (is_long (entry_in clauses r)) (ltb row.id r.id)
    (lt-ltb row.id r.id (ascends.below k j row r (omega (arith, above)) at there)))
  where
    newer : Entry → Bool
    newer o = is_free_lemma (over own) steps o && is_long o && ltb row.id o.id

    older : (j : ℕ) (r : LoggedClause) → j ≤ k → slice_get rows j ≡ Some r → ltb row.id r.id ≡ false
    older j r below there = lt-leb (suc row.id) r.id (elim (cases_lt j k) as (λ _. r.id < suc row.id) [
      | inl before ↦ let less = ascends.below j k r row before there at in omega (arith, less)
      | inr late ↦
          let same : j ≡ k = omega (arith, late, below) in
          let one : r ≡ row = same_some r row (sym there ∙ ap (slice_get rows) same ∙ at) in
          let ids : r.id ≡ row.id = ap (λ (x : LoggedClause). x.id) one in
          omega (arith, ids)
    ])

by_rule : (a b x y : Bool) → (a ≡ true → b ≡ true → x ≡ y) → (a && (not b || x)) ≡ (a && (not b || y))
by_rule true true x y same = same refl refl
by_rule true false x y same = refl
by_rule false b x y same = refl

-- whether a row stays, by the long lemmas before it and those that have to go
pub stays_by_place : (own steps : ℕ) (clauses : List Held) (rows : List LoggedClause) (k : ℕ) (row : LoggedClause) (many seen : ℕ) → Ascends rows →
    slice_get rows k ≡ Some row → many ≡ count_by (is_long_row own steps clauses) rows - 20000 →
    seen ≡ count_by (is_long_row own steps clauses) (take k rows) →
    stays own steps clauses rows row ≡ (is_free_row own steps clauses row && (not (is_long (entry_in clauses row)) || leb many seen))
stays_by_place own steps clauses rows k row many seen ascends at is_many is_seen =
    by_rule (is_free_row own steps clauses row) (is_long (entry_in clauses row)) (ltb newer 20000) (leb many seen) (λ free long.
    let one : count_by (is_long_row own steps clauses) (take (suc k) rows) ≡ 1 + seen =
    count_push (is_long_row own steps clauses) rows k row at ∙
    ap (λ b. digit b + count_by (is_long_row own steps clauses) (take k rows))
    (and_from (is_free_row own steps clauses row) (is_long (entry_in clauses row)) free long) ∙
    ap (λ n. 1 + n) (sym is_seen) in
    let total = newer_by_place own steps clauses rows k row ascends at in
    elim (cases_lt newer 20000) as (λ _. ltb newer 20000 ≡ leb many seen) [
      | inl few ↦ lt-ltb newer 20000 few ∙ sym (le-leb many seen (omega (arith, few, one, total, is_many)))
      | inr many_newer ↦ lt-leb (suc newer) 20000 (omega (arith, many_newer)) ∙
          sym (lt-leb many seen (omega (arith, many_newer, one, total, is_many)))
    ])
  where
    newer : ℕ
    newer = newer_long (over own) steps (map (entry_in clauses) rows) (entry_in clauses row)

-- ---- what is noted

watched_append : (clauses : List Held) (xs ys : List LoggedClause) → watched_in clauses (xs ++ ys) ≡ watched_in clauses xs ++ watched_in clauses ys
watched_append clauses [] ys = refl
watched_append clauses (x ∷ xs) ys =
    ap (λ r. take 2 (literals_at clauses x.clause) ++ r) (watched_append clauses xs ys) ∙
    sym (append_assoc (take 2 (literals_at clauses x.clause)) (watched_in clauses xs) (watched_in clauses ys))

pub noted_none : (clauses : List Held) → IsNoted clauses [] [] [] []
noted_none clauses = record { ids_are = refl; clauses_are = refl; watched_are = refl }

pub noted_push : (clauses : List Held) (rows : List LoggedClause) (row : LoggedClause) (ids refs : List ℕ) (watched : List Literal) → IsNoted clauses rows ids refs watched →
    IsNoted clauses (rows ++ row ∷ []) (ids ++ row.id ∷ []) (refs ++ row.clause ∷ []) (watched ++ take 2 (literals_at clauses row.clause))
noted_push clauses rows row ids refs watched n = record {
  ids_are = ap (λ xs. xs ++ row.id ∷ []) n.ids_are ∙ sym (map-append (λ (r : LoggedClause). r.id) rows (row ∷ []));
  clauses_are = ap (λ xs. xs ++ row.clause ∷ []) n.clauses_are ∙ sym (map-append (λ (r : LoggedClause). r.clause) rows (row ∷ []));
  watched_are = ap (λ xs. xs ++ take 2 (literals_at clauses row.clause)) n.watched_are ∙
      ap (λ xs. watched_in clauses rows ++ xs) (sym (append-nil (take 2 (literals_at clauses row.clause)))) ∙
      sym (watched_append clauses rows (row ∷ []));
}

-- none of the known rows goes where not too many are long
pub known_stay : (own steps : ℕ) (clauses : List Held) (rows : List LoggedClause) (known long : ℕ) → Ascends rows → AreKnown own steps clauses rows known long →
    count_by (is_long_row own steps clauses) rows - 20000 ≡ 0 → filter (goes own steps clauses rows) (take known rows) ≡ []
known_stay own steps clauses rows known long ascends k none =
    filter_none (goes own steps clauses rows) (take known rows) (λ j row there.
    let at = get_take known rows j row there in
    ap not (stays_by_place own steps clauses rows j row 0 (count_by (is_long_row own steps clauses) (take j rows)) ascends at.1 (sym none) refl ∙
    ap (λ b. is_free_row own steps clauses row && (not (is_long (entry_in clauses row)) || b))
    (le-leb 0 (count_by (is_long_row own steps clauses) (take j rows)) (omega arith)) ∙
    ap (λ b. b && (not (is_long (entry_in clauses row)) || true)) (free_at j row there) ∙ or_true (is_long (entry_in clauses row))))
  where
    by_get : (xs : List LoggedClause) (j : ℕ) (row : LoggedClause) → slice_get xs j ≡ Some row → All (λ r. is_free_row own steps clauses r ≡ true) xs →
        is_free_row own steps clauses row ≡ true
    by_get xs j row there all =
        ap (is_free_row own steps clauses) (sym (get_or_from_slice_get xs j row row there)) ∙ all j row (get_within xs j row there)

    free_at : (j : ℕ) (row : LoggedClause) → slice_get (take known rows) j ≡ Some row → is_free_row own steps clauses row ≡ true
    free_at j row there = by_get (take known rows) j row there k.free

    or_true : (b : Bool) → (true && (not b || true)) ≡ true
    or_true true = refl
    or_true false = refl

-- ---- tests of a list

pub any_found : {X : Type 0} (q : X → Bool) (xs : List X) (k : ℕ) (x : X) → slice_get xs k ≡ Some x → q x ≡ true → list_any q xs ≡ true
any_found q [] k x e on = absurd (none_is_not_some x e)
any_found q (y ∷ xs) zero x e on = ap (λ b. b || list_any q xs) (ap q (same_some y x e) ∙ on)
any_found q (y ∷ xs) (suc k) x e on = ap (λ b. q y || b) (any_found q xs k x e on) ∙ or_on (q y)
  where
    or_on : (b : Bool) → (b || true) ≡ true
    or_on true = refl
    or_on false = refl

pub any_push : {X : Type 0} (q : X → Bool) (xs : List X) (k : ℕ) (x : X) → slice_get xs k ≡ Some x → q x ≡ false →
    list_any q (take k xs) ≡ false → list_any q (take (suc k) xs) ≡ false
any_push q [] k x e off none = absurd (none_is_not_some x e)
any_push q (y ∷ xs) zero x e off none = ap (λ b. b || false) (ap q (same_some y x e) ∙ off)
any_push q (y ∷ xs) (suc k) x e off none = by (q y) none (any_push q xs k x e off)
  where
    by : (b : Bool) → (b || list_any q (take k xs)) ≡ false → (list_any q (take k xs) ≡ false → list_any q (take (suc k) xs) ≡ false) →
        (b || list_any q (take (suc k) xs)) ≡ false
    by true t rest = t
    by false t rest = rest t

-- the literal of a code
pub code_there : (codes : List ℕ) (k : ℕ) → k < length codes → slice_get (map literal_of codes) k ≡ Some (literal_of (get_or codes k 0))
code_there codes k within =
    get_map literal_of codes k (get_or codes k 0)
    (slice_get_read codes (length codes) k (get_or codes k 0) refl within (get_or_default codes k 0 (get_or codes k 0) within))

-- a row's origin says whether it is a lemma
pub lemma_back : (clauses : List Held) (row : LoggedClause) → is_lemma (entry_in clauses row) ≡ row.is_lemma
lemma_back clauses row = by row.is_lemma
  where
    by : (b : Bool) → is_lemma (record { id = row.id; origin = cond b Learnt Blocked; literals = literals_at clauses row.clause }) ≡ b
    by true = refl
    by false = refl

pub noted_same : (clauses : List Held) (rows rows' : List LoggedClause) (ids ids' refs refs' : List ℕ) (watched watched' : List Literal) → rows' ≡ rows → ids' ≡ ids →
    refs' ≡ refs → watched' ≡ watched → IsNoted clauses rows ids refs watched → IsNoted clauses rows' ids' refs' watched'
noted_same clauses rows rows' ids ids' refs refs' watched watched' same_rows same_ids same_refs same_watched n = record {
  ids_are = same_ids ∙ n.ids_are ∙ ap (map (λ (r : LoggedClause). r.id)) (sym same_rows);
  clauses_are = same_refs ∙ n.clauses_are ∙ ap (map (λ (r : LoggedClause). r.clause)) (sym same_rows);
  watched_are = same_watched ∙ n.watched_are ∙ ap (watched_in clauses) (sym same_rows);
}
