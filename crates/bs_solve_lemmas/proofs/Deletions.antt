-- What a delete line of the rows that go leaves of a log.
use Rattle.std.proofs.Common.{◌≡◌, ℕ, ◌+◌, arith, Bool, true, false, not, ◌&&◌, ◌||◌, cond, List, [], ◌∷◌, map, ◌<◌, suc, Some, None, inl, inr, ◌⊎◌}
use Rattle.std.proofs.Common.{refl, sym, ap, subst, ◌∙◌, inl, inr, eqb, ltb, leb}
use Rattle.std.specs.Prelude.{slice_get, count_by, Contains, IsPermutation}
use Rattle.std.specs.List.{filter, list_any, list_all}
use Rattle.std.proofs.lemmas.Bool.{cases_Bool, cases_lt, cases_eq, false≢true, eqb-true, eq-eqb, and_from, lt-ltb}
use Rattle.std.proofs.lemmas.List.Sorted.{list_any-IsPermutation, length_permutation}
use Rattle.bs_clause.specs.Literal.{Literal, Clause}
use Rattle.bs_arena.specs.Arena.{Held, literals_at}
use Rattle.bs_log.specs.declared.line.Line.TheVariants.{Retire, Delete}
use Rattle.bs_log.specs.declared.origin.Origin.{Origin}
use Rattle.bs_log.specs.declared.origin.Origin.TheVariants.{Axiom, Learnt, Blocked, Retired}
use Rattle.bs_log.specs.History.{Problem, History, Entry, State, state_of, added, is_deleted, live}
use Rattle.bs_log.specs.declared.why.Why.TheVariants.{Order, NoClause}
use Rattle.bs_log.specs.Refusal.{is_lemma, is_lemma_or_block, is_ascending, in_order, names_stand, passes, entry_of, refusal}
use Rattle.bs_log.specs.Kept.{has_retired_activation, is_free_lemma, is_long, newer_long, is_kept}
use Rattle.bs_log.specs.Lean.{is_block, LeavesKept}
use Rattle.bs_watch.proofs.Gets.{same_some, get_from_Contains}
use Rattle.bs_watch.proofs.Members.{nothing_in, contains_first, cons_contains, contains_cases, map_cases, map_contains, filter_cases, filter_from}
use Rattle.bs_solve_lemmas.specs.declared.row.LoggedClause.{LoggedClause}
use Rattle.bs_solve_lemmas.specs.Keeping.{over, entry_in, goes}
use Rattle.bs_solve_lemmas.specs.Rows.{IsRowOf, AreRowsOf, AreRowsAmong, AreInOrder, going}
use Rattle.bs_solve_lemmas.proofs.Rules.{digit, count_cons, lemma_back}

-- ---- lists

pub filter_same : {X : Type 0} (f g : X → Bool) (xs : List X) → ((x : X) → Contains xs x → f x ≡ g x) → filter f xs ≡ filter g xs
filter_same f g [] same = refl
filter_same f g (x ∷ xs) same =
    ap (λ b. cond b (x ∷ filter f xs) (filter f xs)) (same x (contains_first x xs)) ∙
    ap (λ ys. cond (g x) (x ∷ ys) ys) (filter_same f g xs (λ y c. same y (cons_contains x xs y c)))

filter_both : {X : Type 0} (f g : X → Bool) (xs : List X) → filter f (filter g xs) ≡ filter (λ x. g x && f x) xs
filter_both f g [] = refl
filter_both f g (x ∷ xs) = by (g x) (filter_both f g xs)
  where
    by : (b : Bool) → filter f (filter g xs) ≡ filter (λ y. g y && f y) xs →
        filter f (cond b (x ∷ filter g xs) (filter g xs)) ≡ cond (b && f x) (x ∷ filter (λ y. g y && f y) xs) (filter (λ y. g y && f y) xs)
    by true rest = ap (λ ys. cond (f x) (x ∷ ys) ys) rest
    by false rest = rest

any_none : {X : Type 0} (f : X → Bool) (xs : List X) → ((x : X) → Contains xs x → f x ≡ false) → list_any f xs ≡ false
any_none f [] off = refl
any_none f (x ∷ xs) off =
    ap (λ b. b || list_any f xs) (off x (contains_first x xs)) ∙ any_none f xs (λ y c. off y (cons_contains x xs y c))

any_has : {X : Type 0} (f : X → Bool) (xs : List X) (x : X) → Contains xs x → f x ≡ true → list_any f xs ≡ true
any_has f [] x c on = absurd (nothing_in x c)
any_has f (y ∷ xs) x c on = elim (contains_cases y xs x c) [
  | inl same ↦ ap (λ b. b || list_any f xs) (ap f same ∙ on)
  | inr there ↦ ap (λ b. f y || b) (any_has f xs x there on) ∙ or_on (f y)
]
  where
    or_on : (b : Bool) → (b || true) ≡ true
    or_on true = refl
    or_on false = refl

any_cases : {X : Type 0} (f : X → Bool) (xs : List X) → list_any f xs ≡ true → (x : X) × Contains xs x × (f x ≡ true)
any_cases f [] on = absurd (false≢true on)
any_cases f (x ∷ xs) on = by (f x) refl on (any_cases f xs)
  where
    by : (b : Bool) → f x ≡ b → (b || list_any f xs) ≡ true → (list_any f xs ≡ true → (y : _) × Contains xs y × (f y ≡ true)) →
        (y : _) × Contains (x ∷ xs) y × (f y ≡ true)
    by true is t rest = (x, contains_first x xs, is)
    by false is t rest = let r = rest t in (r.0, cons_contains x xs r.0 r.1, r.2)

-- ---- an entry and its row pass the rule alike

count_filter : {X : Type 0} (f g : X → Bool) (xs : List X) → ((x : X) → g x ≡ false → f x ≡ false) → count_by f (filter g xs) ≡ count_by f xs
count_filter f g [] off = refl
count_filter f g (x ∷ xs) off = by (g x) refl (count_filter f g xs off)
  where
    by : (b : Bool) → g x ≡ b → count_by f (filter g xs) ≡ count_by f xs → count_by f (cond b (x ∷ filter g xs) (filter g xs)) ≡ count_by f (x ∷ xs)
    by true is rest = count_cons f x (filter g xs) ∙ ap (λ n. digit (f x) + n) rest ∙ sym (count_cons f x xs)
    by false is rest = let here : digit (f x) ≡ 0 = ap digit (off x is) in omega (arith, here, rest, count_cons f x xs)

same_activation : (p : Problem) (own steps : ℕ) (c d : Clause) → p.vars ≡ own → IsPermutation c d →
    has_retired_activation p steps c ≡ has_retired_activation (over own) steps d
same_activation p own steps c d is same =
    ap (λ v. has_retired_activation (record { vars = v; clauses = p.clauses; steps = p.steps }) steps c) is ∙
    list_any-IsPermutation (λ (l : Literal). ltb own l.variable && leb l.variable (own + steps)) c d same

same_free : (p : Problem) (own steps : ℕ) (clauses : List Held) (row : LoggedClause) (e : Entry) → p.vars ≡ own → IsRowOf clauses row e →
    is_free_lemma p steps e ≡ is_free_lemma (over own) steps (entry_in clauses row)
same_free p own steps clauses row e is r =
    ap (λ b. b && not (has_retired_activation p steps e.literals)) (sym r.lemma_is ∙ sym (lemma_back clauses row)) ∙
    ap (λ b. is_lemma (entry_in clauses row) && not b) (same_activation p own steps e.literals (literals_at clauses row.clause) is r.same)

same_long : (clauses : List Held) (row : LoggedClause) (e : Entry) → IsRowOf clauses row e → is_long e ≡ is_long (entry_in clauses row)
same_long clauses row e r = ap (λ n. ltb 8 n) (sym (length_permutation e.literals (literals_at clauses row.clause) r.same))

same_newer : (p : Problem) (own steps : ℕ) (clauses : List Held) (rows : List LoggedClause) (es : List Entry) (n m : ℕ) → p.vars ≡ own → n ≡ m →
    AreRowsOf clauses rows es →
    count_by (λ o. is_free_lemma p steps o && is_long o && ltb n o.id) es ≡
    count_by (λ o. is_free_lemma (over own) steps o && is_long o && ltb m o.id) (map (entry_in clauses) rows)
same_newer p own steps clauses [] [] n m is same r = refl
same_newer p own steps clauses [] (e ∷ es) n m is same r = absurd r
same_newer p own steps clauses (row ∷ rows) [] n m is same r = absurd r
same_newer p own steps clauses (row ∷ rows) (e ∷ es) n m is same r =
    count_cons (λ o. is_free_lemma p steps o && is_long o && ltb n o.id) e es ∙
    ap (λ b. digit b + count_by (λ o. is_free_lemma p steps o && is_long o && ltb n o.id) es) here ∙
    ap (λ k. digit (is_free_lemma (over own) steps (entry_in clauses row) && is_long (entry_in clauses row) && ltb m row.id) + k)
    (same_newer p own steps clauses rows es n m is same r.1) ∙
    sym (count_cons (λ o. is_free_lemma (over own) steps o && is_long o && ltb m o.id) (entry_in clauses row) (map (entry_in clauses) rows))
  where
    here : (is_free_lemma p steps e && is_long e && ltb n e.id) ≡
        (is_free_lemma (over own) steps (entry_in clauses row) && is_long (entry_in clauses row) && ltb m row.id)
    here =
        ap (λ b. b && is_long e && ltb n e.id) (same_free p own steps clauses row e is r.0) ∙
        ap (λ b. is_free_lemma (over own) steps (entry_in clauses row) && b && ltb n e.id) (same_long clauses row e r.0) ∙
        ap (λ k. is_free_lemma (over own) steps (entry_in clauses row) && is_long (entry_in clauses row) && ltb k e.id) same ∙
        ap (λ k. is_free_lemma (over own) steps (entry_in clauses row) && is_long (entry_in clauses row) && ltb m k) (sym r.0.id_is)

not_lemma_not_free : (p : Problem) (steps n : ℕ) (e : Entry) → is_lemma_or_block e ≡ false →
    (is_free_lemma p steps e && is_long e && ltb n e.id) ≡ false
not_lemma_not_free p steps n e off = by e.origin off
  where
    by : (o : Origin) → is_lemma_or_block (record { id = e.id; origin = o; literals = e.literals }) ≡ false →
        (is_free_lemma p steps (record { id = e.id; origin = o; literals = e.literals }) && is_long e && ltb n e.id) ≡ false
    by Axiom t = refl
    by Learnt t = absurd (false≢true (sym t))
    by Blocked t = refl
    by Retired t = refl

-- the row goes where the log does not keep its entry
pub row_goes : (p : Problem) (own steps : ℕ) (clauses : List Held) (rows : List LoggedClause) (entries : List Entry) (row : LoggedClause) (e : Entry) → p.vars ≡ own →
    AreRowsAmong clauses rows entries → IsRowOf clauses row e → goes own steps clauses rows row ≡ not (is_kept p steps entries e)
row_goes p own steps clauses rows entries row e is r here = ap not (sym (
    ap (λ b. b && (not (is_long e) || ltb (newer_long p steps entries e) 20000)) (same_free p own steps clauses row e is here) ∙
    ap (λ b. is_free_lemma (over own) steps (entry_in clauses row) && (not b || ltb (newer_long p steps entries e) 20000)) (same_long clauses row e here) ∙
    ap (λ n. is_free_lemma (over own) steps (entry_in clauses row) && (not (is_long (entry_in clauses row)) || ltb n 20000)) newer))
  where
    newer : newer_long p steps entries e ≡ newer_long (over own) steps (map (entry_in clauses) rows) (entry_in clauses row)
    newer =
        sym (count_filter (λ o. is_free_lemma p steps o && is_long o && ltb e.id o.id) is_lemma_or_block entries
        (λ o off. not_lemma_not_free p steps e.id o off)) ∙
        same_newer p own steps clauses rows (filter is_lemma_or_block entries) e.id row.id is (sym here.id_is) r

ids_alike : (clauses : List Held) (f : LoggedClause → Bool) (g : Entry → Bool) (xs : List LoggedClause) (es : List Entry) → AreRowsOf clauses xs es →
    ((row : LoggedClause) (e : Entry) → IsRowOf clauses row e → f row ≡ g e) →
    map (λ (row : LoggedClause). row.id) (filter f xs) ≡ map (λ (e : Entry). e.id) (filter g es)
ids_alike clauses f g [] [] q same = refl
ids_alike clauses f g [] (e ∷ es) q same = absurd q
ids_alike clauses f g (x ∷ xs) [] q same = absurd q
ids_alike clauses f g (x ∷ xs) (e ∷ es) q same = by (f x) (g e) (same x e q.0) (ids_alike clauses f g xs es q.1 same)
  where
    by : (a b : Bool) → a ≡ b → map (λ (row : LoggedClause). row.id) (filter f xs) ≡ map (λ (e : Entry). e.id) (filter g es) →
        map (λ (row : LoggedClause). row.id) (cond a (x ∷ filter f xs) (filter f xs)) ≡ map (λ (e : Entry). e.id) (cond b (e ∷ filter g es) (filter g es))
    by true true t rest = λ i. q.0.id_is i ∷ rest i
    by false false t rest = rest
    by true false t rest = absurd (false≢true (sym t))
    by false true t rest = absurd (false≢true t)

-- the ids of the rows that go are those of the lemmas and blocks that are not kept
pub leaving_ids : (p : Problem) (own steps : ℕ) (clauses : List Held) (rows : List LoggedClause) (entries : List Entry) → p.vars ≡ own →
    AreRowsAmong clauses rows entries →
    map (λ (row : LoggedClause). row.id) (filter (goes own steps clauses rows) rows) ≡
    map (λ (e : Entry). e.id) (filter (λ e. not (is_kept p steps entries e)) (filter is_lemma_or_block entries))
leaving_ids p own steps clauses rows entries is r =
    ids_alike clauses (goes own steps clauses rows) (λ e. not (is_kept p steps entries e)) rows (filter is_lemma_or_block entries) r
    (λ row e here. row_goes p own steps clauses rows entries row e is r here)

-- ---- what the delete line leaves

pub same_entry : (entries : List Entry) (a b : Entry) → AreInOrder entries → Contains entries a → Contains entries b → a.id ≡ b.id → a ≡ b
same_entry entries a b order in_a in_b same =
    let (i, at_i) = get_from_Contains entries a in_a in
    let (j, at_j) = get_from_Contains entries b in_b in
    let one : i ≡ j = elim (cases_lt i j) as (λ _. i ≡ j) [
      | inl before ↦ let h = order.below i j a b before at_i at_j in absurd (omega (arith, h, same))
      | inr past ↦ elim (cases_eq i j) as (λ _. i ≡ j) [
        | inl equal ↦ equal
        | inr different ↦ let h = order.below j i b a (omega (arith, past, λ (e : i ≡ j). different e)) at_j at_i in absurd (omega (arith, h, same))
      ]
    ] in
    same_some a b (sym at_i ∙ ap (slice_get entries) one ∙ at_j)

-- an entry's id is deleted just where it goes
deleted_goes : (p : Problem) (step : ℕ) (entries : List Entry) (e : Entry) → AreInOrder entries → Contains entries e →
    list_any (λ d. eqb e.id d) (map (λ (x : Entry). x.id) (going p step entries)) ≡ (is_lemma_or_block e && not (is_kept p step entries e))
deleted_goes p step entries e order there = by (is_lemma_or_block e) refl (not (is_kept p step entries e)) refl
  where
    was : (x : Entry) → Contains (going p step entries) x → Contains entries x × (is_lemma_or_block x ≡ true) × (not (is_kept p step entries x) ≡ true)
    was x c =
        let one = filter_cases (λ e. not (is_kept p step entries e)) (filter is_lemma_or_block entries) x c in
        let two = filter_cases is_lemma_or_block entries x one.0 in
        (two.0, two.1, one.1)

    stays : ((x : Entry) → Contains (going p step entries) x → x.id ≡ e.id → ⊥) →
        list_any (λ d. eqb e.id d) (map (λ (x : Entry). x.id) (going p step entries)) ≡ false
    stays missing = any_none (λ d. eqb e.id d) (map (λ (x : Entry). x.id) (going p step entries)) (λ d c.
        let (x, in_x, is) = map_cases (λ (x : Entry). x.id) (going p step entries) d c in
        elim (cases_Bool (eqb e.id d)) [
          | inr off ↦ off
          | inl on ↦ absurd (missing x in_x (is ∙ sym (eqb-true e.id d on)))
        ])

    by : (a : Bool) → is_lemma_or_block e ≡ a → (b : Bool) → not (is_kept p step entries e) ≡ b →
        list_any (λ d. eqb e.id d) (map (λ (x : Entry). x.id) (going p step entries)) ≡ (a && b)
    by true in_a true in_b = any_has (λ d. eqb e.id d) (map (λ (x : Entry). x.id) (going p step entries)) e.id
        (map_contains (λ (x : Entry). x.id) (going p step entries) e
        (filter_from (λ e. not (is_kept p step entries e)) (filter is_lemma_or_block entries) e (filter_from is_lemma_or_block entries e there in_a) in_b))
        (eq-eqb e.id e.id refl)
    by true in_a false in_b = stays (λ x c same.
        let w = was x c in
        let one : x ≡ e = same_entry entries x e order w.0 there same in
        false≢true (sym in_b ∙ ap (λ y. not (is_kept p step entries y)) (sym one) ∙ w.2))
    by false in_a b in_b = stays (λ x c same.
        let w = was x c in
        let one : x ≡ e = same_entry entries x e order w.0 there same in
        false≢true (sym in_a ∙ ap is_lemma_or_block (sym one) ∙ w.1))

-- the entries that stand behind the delete line
pub live_after : (p : Problem) (h : History) (ids : List ℕ) → live p (Delete ids ∷ h) ≡ filter (λ e. not (list_any (λ d. eqb e.id d) ids)) (live p h)
live_after p h ids =
    filter_same (λ e. not (list_any (λ d. eqb e.id d) ids || is_deleted h e.id)) (λ e. not (is_deleted h e.id) && not (list_any (λ d. eqb e.id d) ids))
    (added p h)
    (λ e c. no_or (list_any (λ d. eqb e.id d) ids) (is_deleted h e.id)) ∙
    sym (filter_both (λ e. not (list_any (λ d. eqb e.id d) ids)) (λ e. not (is_deleted h e.id)) (added p h))
  where
    no_or : (a b : Bool) → not (a || b) ≡ (not b && not a)
    no_or true true = refl
    no_or true false = refl
    no_or false true = refl
    no_or false false = refl

abbrev pub with_origin : Entry → Origin → Entry
with_origin e o = record { id = e.id; origin = o; literals = e.literals }

twice : (b : Bool) → (not (not b) && true) ≡ b
twice true = refl
twice false = refl

off_right : (b : Bool) → (b && false) ≡ false
off_right true = refl
off_right false = refl

kept_alone : (p : Problem) (step : ℕ) (entries : List Entry) (e : Entry) →
    (not (is_lemma_or_block e && not (is_kept p step entries e)) && is_lemma e) ≡ is_kept p step entries e
kept_alone p step entries e = by e.origin
  where
    by : (o : Origin) → (not (is_lemma_or_block (with_origin e o) && not (is_kept p step entries (with_origin e o))) && is_lemma (with_origin e o)) ≡
        is_kept p step entries (with_origin e o)
    by Axiom = refl
    by Learnt = twice (is_kept p step entries (with_origin e Learnt))
    by Blocked = refl
    by Retired = refl

block_goes : (p : Problem) (step : ℕ) (entries : List Entry) (e : Entry) → (not (is_lemma_or_block e && not (is_kept p step entries e)) && is_block e) ≡ false
block_goes p step entries e = by e.origin
  where
    by : (o : Origin) → (not (is_lemma_or_block (with_origin e o) && not (is_kept p step entries (with_origin e o))) && is_block (with_origin e o)) ≡ false
    by Axiom = refl
    by Learnt = off_right (not (not (is_kept p step entries (with_origin e Learnt))))
    by Blocked = refl
    by Retired = refl

-- behind it the lemmas are those that are kept, and no block stands
pub delete_leaves_kept : (p : Problem) (step : ℕ) (retired : History) → AreInOrder (live p retired) →
    LeavesKept p step retired (Delete (map (λ (e : Entry). e.id) (going p step (live p retired))) ∷ retired)
delete_leaves_kept p step retired order = record {
  lemmas = ap (filter is_lemma) (live_after p retired ids) ∙ filter_both is_lemma (λ e. not (list_any (λ d. eqb e.id d) ids)) entries ∙
      filter_same (λ e. not (list_any (λ d. eqb e.id d) ids) && is_lemma e) (is_kept p step entries) entries
      (λ e c. ap (λ b. not b && is_lemma e) (deleted_goes p step entries e order c) ∙ kept_alone p step entries e);
  blocks = any_none is_block (live p (Delete ids ∷ retired)) (λ e c.
      let w = filter_cases (λ e. not (list_any (λ d. eqb e.id d) ids)) entries e (subst (λ es. Contains es e) (live_after p retired ids) c) in
      sym (ap (λ b. b && is_block e) w.1) ∙ ap (λ b. not b && is_block e) (deleted_goes p step entries e order w.0) ∙ block_goes p step entries e);
}
  where
    entries : List Entry
    entries = live p retired

    ids : List ℕ
    ids = map (λ (e : Entry). e.id) (going p step (live p retired))

-- where nothing goes, no line is needed
pub nothing_leaves_kept : (p : Problem) (step : ℕ) (retired : History) → map (λ (e : Entry). e.id) (going p step (live p retired)) ≡ [] →
    LeavesKept p step retired retired
nothing_leaves_kept p step retired none = record {
  lemmas = filter_same is_lemma (is_kept p step entries) entries (λ e c.
      sym (ap (λ b. not b && is_lemma e) (stays e c)) ∙ kept_alone p step entries e);
  blocks = any_none is_block entries (λ e c. sym (ap (λ b. not b && is_block e) (stays e c)) ∙ block_goes p step entries e);
}
  where
    entries : List Entry
    entries = live p retired

    both : (a b : Bool) → (a && b) ≡ true → (a ≡ true) × (b ≡ true)
    both true true t = (refl, refl)
    both true false t = absurd (false≢true t)
    both false b t = absurd (false≢true t)

    no_going : (e : Entry) → Contains (live p retired) e → (is_lemma_or_block e ≡ true) × (not (is_kept p step (live p retired) e) ≡ true) → ⊥
    no_going e c t =
        nothing_in e.id (subst (λ ids. Contains ids e.id) none
        (map_contains (λ (x : Entry). x.id) (going p step (live p retired)) e
        (filter_from (λ e. not (is_kept p step (live p retired) e)) (filter is_lemma_or_block (live p retired)) e
        (filter_from is_lemma_or_block (live p retired) e c t.0) t.1)))

    stays : (e : Entry) → Contains (live p retired) e → (is_lemma_or_block e && not (is_kept p step (live p retired) e)) ≡ false
    stays e c = elim (cases_Bool (is_lemma_or_block e && not (is_kept p step (live p retired) e))) [
      | inr off ↦ off
      | inl on ↦ absurd (no_going e c (both (is_lemma_or_block e) (not (is_kept p step (live p retired) e)) on))
    ]

-- ---- the delete line is not refused

-- each further entry has a greater id
abbrev pub InChain : List Entry → Type 0
InChain [] = Unit {0}
InChain (e ∷ es) = ((o : Entry) → Contains es o → e.id < o.id) × InChain es

pub chain_of : (es : List Entry) → AreInOrder es → InChain es
chain_of [] order = tt
chain_of (e ∷ es) order = (
  (λ o there. let (k, at) = get_from_Contains es o there in order.below 0 (suc k) e o (omega arith) refl at),
  chain_of es (record { below = λ i j a b h at_i at_j. order.below (suc i) (suc j) a b (omega (arith, h)) at_i at_j }),
)

pub chain_filter : (f : Entry → Bool) (es : List Entry) → InChain es → InChain (filter f es)
chain_filter f [] c = tt
chain_filter f (e ∷ es) c = by (f e) (chain_filter f es c.1)
  where
    by : (b : Bool) → InChain (filter f es) → InChain (cond b (e ∷ filter f es) (filter f es))
    by true rest = ((λ o there. c.0 o (filter_cases f es o there).0), rest)
    by false rest = rest

chain_ascends : (es : List Entry) → InChain es → is_ascending (map (λ (e : Entry). e.id) es) ≡ true
chain_ascends [] c = refl
chain_ascends (e ∷ []) c = refl
chain_ascends (e ∷ o ∷ es) c =
    and_from (ltb e.id o.id) (is_ascending (map (λ (e : Entry). e.id) (o ∷ es))) (lt-ltb e.id o.id (c.0 o (contains_first o es))) (chain_ascends (o ∷ es) c.1)

-- the first entry of an id
first : (entries : List Entry) (e : Entry) → Contains entries e →
    (o : Entry) × (entry_of entries e.id ≡ Some o) × Contains entries o × (o.id ≡ e.id)
first [] e there = absurd (nothing_in e there)
first (x ∷ xs) e there = by (eqb x.id e.id) refl (contains_cases x xs e there) (λ later. first xs e later)
  where
    by : (b : Bool) → eqb x.id e.id ≡ b → (x ≡ e) ⊎ Contains xs e →
        (Contains xs e → (o : Entry) × (entry_of xs e.id ≡ Some o) × Contains xs o × (o.id ≡ e.id)) →
        (o : Entry) × (cond b (Some x) (entry_of xs e.id) ≡ Some o) × Contains (x ∷ xs) o × (o.id ≡ e.id)
    by true is c rest = (x, refl, contains_first x xs, eqb-true x.id e.id is)
    by false is (inl same) rest = absurd (false≢true (sym is ∙ eq-eqb x.id e.id (ap (λ (y : Entry). y.id) same)))
    by false is (inr later) rest = let r = rest later in (r.0, r.1, cons_contains x xs r.0 r.2, r.3)

-- an id of the entries names the entry
pub named : (entries : List Entry) (e : Entry) → AreInOrder entries → Contains entries e → entry_of entries e.id ≡ Some e
named entries e order there =
    let f = first entries e there in
    f.1 ∙ ap Some (same_entry entries f.0 e order f.2 there f.3)

all_stand : (entries es : List Entry) → AreInOrder entries → ((e : Entry) → Contains es e → Contains entries e × (is_lemma_or_block e ≡ true)) →
    list_all (λ d. passes is_lemma_or_block (entry_of entries d)) (map (λ (e : Entry). e.id) es) ≡ true
all_stand entries [] order among = refl
all_stand entries (e ∷ es) order among =
    and_from (passes is_lemma_or_block (entry_of entries e.id))
    (list_all (λ d. passes is_lemma_or_block (entry_of entries d)) (map (λ (e : Entry). e.id) es))
    (let a = among e (contains_first e es) in ap (passes is_lemma_or_block) (named entries e order a.0) ∙ a.1)
    (all_stand entries es order (λ o c. among o (cons_contains e es o c)))

not_refused : (p : Problem) (s : State) (ids : List ℕ) → in_order p s (Delete ids) ≡ true → names_stand s (Delete ids) ≡ true →
    refusal p s (Delete ids) ≡ None
not_refused p s ids order stand =
    ap (λ b. cond b (cond (names_stand s (Delete ids)) None (Some NoClause)) (Some Order)) order ∙ ap (λ b. cond b None (Some NoClause)) stand

-- behind a retire line the line of those that go is right
pub delete_is_right : (p : Problem) (step id : ℕ) (earlier : History) → AreInOrder (live p (Retire id ∷ earlier)) →
    refusal p (state_of p (Retire id ∷ earlier)) (Delete (map (λ (e : Entry). e.id) (going p step (live p (Retire id ∷ earlier))))) ≡ None
delete_is_right p step id earlier order =
    not_refused p (state_of p (Retire id ∷ earlier)) (map (λ (e : Entry). e.id) (going p step entries))
    (chain_ascends (going p step entries) (chain_filter (λ e. not (is_kept p step entries e)) (filter is_lemma_or_block entries)
    (chain_filter is_lemma_or_block entries (chain_of entries order))))
    (all_stand entries (going p step entries) order (λ e c.
    let one = filter_cases (λ e. not (is_kept p step entries e)) (filter is_lemma_or_block entries) e c in
    filter_cases is_lemma_or_block entries e one.0))
  where
    entries : List Entry
    entries = live p (Retire id ∷ earlier)
