-- The entries of a log that is right: their ids ascend, and each is found under its own.
use Rattle.std.proofs.Common.{◌≡◌, ◌≢◌, ℕ, zero, suc, ◌+◌, ◌<◌, ◌≤◌, ◌^◌, arith, Bool, true, false, not, ◌&&◌, ◌||◌, cond, List, [], ◌∷◌, ◌++◌, map}
use Rattle.std.proofs.Common.{length, refl, sym, ap, subst, ◌∙◌, inl, inr, ◌⊎◌, Option, Some, None, eqb, ltb}
use Rattle.std.specs.Prelude.{All, Contains, slice_get, is_some}
use Rattle.std.specs.List.{AllByRecursion, filter, list_any, list_all}
use Rattle.std.proofs.lemmas.Bool.{cases_Bool, eq-eqb, eqb-true, ltb-true, and_parts, false≢true, false_from_ne_true}
use Rattle.std.proofs.lemmas.List.Elements.{Contains-append_cases, Contains-append_right, filter-append}
use Rattle.bs_clause.specs.Literal.{Clause, negation}
use Rattle.bs_log.specs.declared.line.Line.{Line}
use Rattle.bs_log.specs.declared.line.Line.TheVariants.{Solve, Lemma, Block, Finish, Retire, Delete}
use Rattle.bs_log.specs.declared.origin.Origin.TheVariants.{Learnt, Blocked, Retired}
use Rattle.bs_log.specs.History.{Problem, History, Entry, axioms_from, added, is_deleted, live, last_id, state_of, phase_of, step_of, activation_of}
use Rattle.bs_log.specs.Refusal.{NoneRefused, entry_of, passes, is_lemma, is_lemma_or_block, in_solve, is_between_steps, is_ascending}
use Rattle.bs_log.specs.LineForms.{IsId}
use Rattle.bs_log.proofs.Tests.{right_from_none}
use Rattle.bs_log.proofs.Histories.{next_given, live-push}
use Rattle.bs_solve_lemmas.specs.Rows.{AreInOrder}
use Rattle.bs_solve_lemmas.proofs.Deletions.{InChain, chain_filter, named}
use Rattle.bs_solve_lemmas.specs.Ids.{Rises}
use Rattle.bs_watch.proofs.Gets.{none_is_not_some, same_some, Contains_from_get}
use Rattle.bs_solve_lemmas.proofs.Clauses.{nothing_in, contains_first, cons_contains, contains_cases, filter_cases}

-- ---- what an id names

-- an entry that is found is there, and has the id
pub found_stands : (entries : List Entry) (id : ℕ) (e : Entry) → entry_of entries id ≡ Some e → Contains entries e
found_stands [] id e found = absurd (none_is_not_some e found)
found_stands (x ∷ xs) id e found = by (eqb x.id id) found (found_stands xs id e)
  where
    by : (b : Bool) → cond b (Some x) (entry_of xs id) ≡ Some e → (entry_of xs id ≡ Some e → Contains xs e) → Contains (x ∷ xs) e
    by true here rest = subst (Contains (x ∷ xs)) (same_some x e here) (contains_first x xs)
    by false later rest = cons_contains x xs e (rest later)

pub found_id : (entries : List Entry) (id : ℕ) (e : Entry) → entry_of entries id ≡ Some e → e.id ≡ id
found_id [] id e found = absurd (none_is_not_some e found)
found_id (x ∷ xs) id e found = by (eqb x.id id) refl found (found_id xs id e)
  where
    by : (b : Bool) → eqb x.id id ≡ b → cond b (Some x) (entry_of xs id) ≡ Some e → (entry_of xs id ≡ Some e → e.id ≡ id) → e.id ≡ id
    by true is here rest = ap (λ (y : Entry). y.id) (sym (same_some x e here)) ∙ eqb-true x.id id is
    by false is later rest = rest later

-- more entries leave what was found
pub found_still : (entries more : List Entry) (id : ℕ) (e : Entry) → entry_of entries id ≡ Some e → entry_of (entries ++ more) id ≡ Some e
found_still [] more id e found = absurd (none_is_not_some e found)
found_still (x ∷ xs) more id e found = by (eqb x.id id) found (found_still xs more id e)
  where
    by : (b : Bool) → cond b (Some x) (entry_of xs id) ≡ Some e → (entry_of xs id ≡ Some e → entry_of (xs ++ more) id ≡ Some e) →
        cond b (Some x) (entry_of (xs ++ more) id) ≡ Some e
    by true here rest = here
    by false later rest = rest later

pub some_entry : (o : Option Entry) → is_some o ≡ true → (e : Entry) × (o ≡ Some e)
some_entry None is = absurd (false≢true is)
some_entry (Some e) is = (e, refl)

pub passing_entry : (test : Entry → Bool) (o : Option Entry) → passes test o ≡ true → (e : Entry) × (o ≡ Some e)
passing_entry test None is = absurd (false≢true is)
passing_entry test (Some e) is = (e, refl)

-- ---- ids ascend

-- the ids ascend, from 1 to the last one that was given
pub record AreGiven (last : ℕ) (es : List Entry) : Type 0 where
  pub chain : InChain es
  pub low : (e : Entry) → Contains es e → 1 ≤ e.id
  pub high : (e : Entry) → Contains es e → e.id ≤ last

chain_push : (es : List Entry) (e : Entry) → InChain es → ((o : Entry) → Contains es o → o.id < e.id) → InChain (es ++ e ∷ [])
chain_push [] e c less = ((λ o there. absurd (nothing_in o there)), tt)
chain_push (x ∷ es) e c less = (
  (λ o there. elim (Contains-append_cases es (e ∷ []) o there) [
    | inl before ↦ c.0 o before
    | inr last ↦ elim (contains_cases e [] o last) [
      | inl same ↦ subst (λ (y : Entry). x.id < y.id) same (less x (contains_first x es))
      | inr none ↦ absurd (nothing_in o none)
    ]
  ]),
  chain_push es e c.1 (λ o there. less o (cons_contains x es o there)),
)

given_push : (last id : ℕ) (es : List Entry) (e : Entry) → AreGiven last es → id ≡ last + 1 → e.id ≡ id → AreGiven id (es ++ e ∷ [])
given_push last id es e g next is = record {
  chain = chain_push es e g.chain (λ o there. let h = g.high o there in omega (arith, h, next, is));
  low = λ o there. elim (Contains-append_cases es (e ∷ []) o there) [
    | inl before ↦ g.low o before
    | inr last ↦ elim (contains_cases e [] o last) [
      | inl same ↦ subst (λ (y : Entry). 1 ≤ y.id) same (omega (arith, next, is))
      | inr none ↦ absurd (nothing_in o none)
    ]
  ];
  high = λ o there. elim (Contains-append_cases es (e ∷ []) o there) [
    | inl before ↦ let h = g.high o before in omega (arith, h, next)
    | inr last ↦ elim (contains_cases e [] o last) [
      | inl same ↦ subst (λ (y : Entry). y.id ≤ id) same (omega (arith, is))
      | inr none ↦ absurd (nothing_in o none)
    ]
  ];
}

axiom_ids : (n : ℕ) (cs : List Clause) (e : Entry) → Contains (axioms_from n cs) e → (n ≤ e.id) × (e.id < n + length cs)
axiom_ids n [] e there = absurd (nothing_in e there)
axiom_ids n (c ∷ cs) e there = elim (contains_cases _ (axioms_from (n + 1) cs) e there) [
  | inl same ↦ let is : n ≡ e.id = ap (λ (y : Entry). y.id) same in (omega (arith, is), omega (arith, is))
  | inr later ↦ let h = axiom_ids (n + 1) cs e later in (omega (arith, h.0), omega (arith, h.1))
]

chain_axioms : (n : ℕ) (cs : List Clause) → InChain (axioms_from n cs)
chain_axioms n [] = tt
chain_axioms n (c ∷ cs) = ((λ o there. let h = axiom_ids (n + 1) cs o there in omega (arith, h.0)), chain_axioms (n + 1) cs)

pub added_given : (p : Problem) (h : History) → NoneRefused p h → AreGiven (last_id p h) (added p h)
added_given p [] right = record {
  chain = chain_axioms 1 p.clauses;
  low = λ e there. (axiom_ids 1 p.clauses e there).0;
  high = λ e there. let h = (axiom_ids 1 p.clauses e there).1 in omega (arith, h);
}
added_given p (Solve ∷ h) right = added_given p h right.1
added_given p (Finish id ∷ h) right = added_given p h right.1
added_given p (Delete ids ∷ h) right = added_given p h right.1
added_given p (Lemma id lits hints ∷ h) right =
    given_push (last_id p h) id (added p h) (record { id = id; origin = Learnt; literals = lits }) (added_given p h right.1)
    (next_given p h (in_solve (phase_of h)) id (right_from_none p (state_of p h) (Lemma id lits hints) right.0).order) refl
added_given p (Block id lits ∷ h) right =
    given_push (last_id p h) id (added p h) (record { id = id; origin = Blocked; literals = lits }) (added_given p h right.1)
    (next_given p h (in_solve (phase_of h)) id (right_from_none p (state_of p h) (Block id lits) right.0).order) refl
added_given p (Retire id ∷ h) right =
    given_push (last_id p h) id (added p h) (record { id = id; origin = Retired; literals = negation (activation_of p (step_of h)) ∷ [] })
    (added_given p h right.1)
    (next_given p h (not (is_between_steps (phase_of h))) id (right_from_none p (state_of p h) (Retire id) right.0).order) refl

pub live_given : (p : Problem) (h : History) → NoneRefused p h → AreGiven (last_id p h) (live p h)
live_given p h right =
    let g = added_given p h right in
    record {
      chain = chain_filter (λ (e : Entry). not (is_deleted h e.id)) (added p h) g.chain;
      low = λ e there. g.low e (filter_cases (λ (x : Entry). not (is_deleted h x.id)) (added p h) e there).0;
      high = λ e there. g.high e (filter_cases (λ (x : Entry). not (is_deleted h x.id)) (added p h) e there).0;
    }

pub order_of : (es : List Entry) → InChain es → AreInOrder es
order_of [] c = record { below = λ i j a b before at_i at_j. absurd (none_is_not_some a at_i) }
order_of (x ∷ xs) c = record { below = by (order_of xs c.1) }
  where
    by : AreInOrder xs → (i j : ℕ) (a b : Entry) → i < j → slice_get (x ∷ xs) i ≡ Some a → slice_get (x ∷ xs) j ≡ Some b → a.id < b.id
    by rest i zero a b before at_i at_j = absurd (omega (arith, before))
    by rest zero (suc j) a b before at_i at_j = subst (λ (y : Entry). y.id < b.id) (same_some x a at_i) (c.0 b (Contains_from_get xs j b at_j))
    by rest (suc i) (suc j) a b before at_i at_j = rest.below i j a b (omega (arith, before)) at_i at_j

-- the ids of what stands ascend
pub live_in_order : (p : Problem) (h : History) → NoneRefused p h → AreInOrder (live p h)
live_in_order p h right = order_of (live p h) (live_given p h right).chain

-- ---- lists of ids

later_id : (id : ℕ) (ys : List Entry) (j b : ℕ) → ((o : Entry) → Contains ys o → id < o.id) → slice_get (map (λ (e : Entry). e.id) ys) j ≡ Some b → id < b
later_id id [] j b less at = absurd (none_is_not_some b at)
later_id id (y ∷ ys) zero b less at = subst (λ n. id < n) (same_some y.id b at) (less y (contains_first y ys))
later_id id (y ∷ ys) (suc j) b less at = later_id id ys j b (λ o there. less o (cons_contains y ys o there)) at

chain_rises : (es : List Entry) → InChain es → Rises (map (λ (e : Entry). e.id) es)
chain_rises [] c = record { below = λ i j a b before at_i at_j. absurd (none_is_not_some a at_i) }
chain_rises (x ∷ xs) c = record { below = by (chain_rises xs c.1) }
  where
    by : Rises (map (λ (e : Entry). e.id) xs) → (i j a b : ℕ) → i < j → slice_get (map (λ (e : Entry). e.id) (x ∷ xs)) i ≡ Some a →
        slice_get (map (λ (e : Entry). e.id) (x ∷ xs)) j ≡ Some b → a < b
    by rest i zero a b before at_i at_j = absurd (omega (arith, before))
    by rest zero (suc j) a b before at_i at_j = subst (λ n. n < b) (same_some x.id a at_i) (later_id x.id xs j b c.0 at_j)
    by rest (suc i) (suc j) a b before at_i at_j = rest.below i j a b (omega (arith, before)) at_i at_j

-- the ids of the lemmas ascend
pub lemmas_rise : (p : Problem) (h : History) → NoneRefused p h → Rises (map (λ (e : Entry). e.id) (filter is_lemma (live p h)))
lemmas_rise p h right = chain_rises (filter is_lemma (live p h)) (chain_filter is_lemma (live p h) (live_given p h right).chain)

-- and so do those of a delete line
pub ascending_rises : (ids : List ℕ) → is_ascending ids ≡ true → Rises ids
ascending_rises [] up = record { below = λ i j a b before at_i at_j. absurd (none_is_not_some a at_i) }
ascending_rises (x ∷ []) up = record { below = by }
  where
    by : (i j a b : ℕ) → i < j → slice_get (x ∷ []) i ≡ Some a → slice_get (x ∷ []) j ≡ Some b → a < b
    by i zero a b before at_i at_j = absurd (omega (arith, before))
    by i (suc j) a b before at_i at_j = absurd (none_is_not_some b at_j)
ascending_rises (x ∷ y ∷ ids) up =
    let parts = and_parts (ltb x y) (is_ascending (y ∷ ids)) up in
    let less : x < y = ltb-true x y parts.0 in
    record { below = by less (ascending_rises (y ∷ ids) parts.1) }
  where
    by : x < y → Rises (y ∷ ids) → (i j a b : ℕ) → i < j → slice_get (x ∷ y ∷ ids) i ≡ Some a → slice_get (x ∷ y ∷ ids) j ≡ Some b → a < b
    by less rest i zero a b before at_i at_j = absurd (omega (arith, before))
    by less rest zero (suc zero) a b before at_i at_j =
        let is_a : x ≡ a = same_some x a at_i in let is_b : y ≡ b = same_some y b at_j in omega (arith, less, is_a, is_b)
    by less rest zero (suc (suc j)) a b before at_i at_j =
        let is_a : x ≡ a = same_some x a at_i in let over : y < b = rest.below 0 (suc j) y b (omega arith) refl at_j in omega (arith, less, is_a, over)
    by less rest (suc i) (suc j) a b before at_i at_j = rest.below i j a b (omega (arith, before)) at_i at_j

-- an id that names what stands has a text
is_id : (p : Problem) (h : History) (id : ℕ) (e : Entry) → NoneRefused p h → last_id p h < 2 ^ 64 → entry_of (live p h) id ≡ Some e → IsId id
is_id p h id e right high found =
    let g = live_given p h right in
    let there = found_stands (live p h) id e found in
    let is = found_id (live p h) id e found in
    let low = g.low e there in
    let up = g.high e there in
    (omega (arith, low, is), omega (arith, up, is, high))

pub hints_are_ids : (p : Problem) (h : History) (ids : List ℕ) → NoneRefused p h → last_id p h < 2 ^ 64 →
    All (λ id. is_some (entry_of (live p h) id) ≡ true) ids → AllByRecursion IsId ids
hints_are_ids p h [] right high all = tt
hints_are_ids p h (id ∷ ids) right high all =
    let found = some_entry (entry_of (live p h) id) (all 0 id (omega arith)) in
    (is_id p h id found.0 right high found.1, hints_are_ids p h ids right high (λ k d at. all (suc k) d (omega (arith, at))))

pub deleted_are_ids : (p : Problem) (h : History) (ids : List ℕ) → NoneRefused p h → last_id p h < 2 ^ 64 →
    list_all (λ d. passes is_lemma_or_block (entry_of (live p h) d)) ids ≡ true → AllByRecursion IsId ids
deleted_are_ids p h [] right high all = tt
deleted_are_ids p h (id ∷ ids) right high all =
    let parts = and_parts (passes is_lemma_or_block (entry_of (live p h) id))
    (list_all (λ d. passes is_lemma_or_block (entry_of (live p h) d)) ids) all in
    let found = passing_entry is_lemma_or_block (entry_of (live p h) id) parts.0 in
    (is_id p h id found.0 right high found.1, deleted_are_ids p h ids right high parts.1)

pub finished_is_id : (p : Problem) (h : History) (id : ℕ) → NoneRefused p h → last_id p h < 2 ^ 64 →
    passes is_lemma (entry_of (live p h) id) ≡ true → IsId id
finished_is_id p h id right high named =
    let found = passing_entry is_lemma (entry_of (live p h) id) named in is_id p h id found.0 right high found.1

-- ---- one more entry

-- the newest entry is found under its id
pub found_last : (p : Problem) (h : History) (es : List Entry) (e : Entry) → NoneRefused p h → live p h ≡ es ++ e ∷ [] →
    entry_of (live p h) e.id ≡ Some e
found_last p h es e right is = named (live p h) e (live_in_order p h right)
    (subst (λ xs. Contains xs e) (sym is) (Contains-append_right es (e ∷ []) e (contains_first e [])))

-- no entry has the next id
pub next_is_fresh : (p : Problem) (h : History) (id : ℕ) → NoneRefused p h → id ≡ last_id p h + 1 → entry_of (live p h) id ≡ None
next_is_fresh p h id right next = by (entry_of (live p h) id) refl
  where
    by : (o : Option Entry) → entry_of (live p h) id ≡ o → o ≡ None
    by None found = refl
    by (Some e) found = absurd (
        let high = (live_given p h right).high e (found_stands (live p h) id e found) in
        omega (arith, high, found_id (live p h) id e found, next))

-- the ids of the lemmas, with one more entry
pub ids_with : (es : List Entry) (e : Entry) → map (λ (x : Entry). x.id) (filter is_lemma (es ++ e ∷ [])) ≡
    map (λ (x : Entry). x.id) (filter is_lemma es) ++ map (λ (x : Entry). x.id) (filter is_lemma (e ∷ []))
ids_with [] e = refl
ids_with (x ∷ es) e = by (is_lemma x) (ids_with es e)
  where
    by : (b : Bool) → map (λ (y : Entry). y.id) (filter is_lemma (es ++ e ∷ [])) ≡
        map (λ (y : Entry). y.id) (filter is_lemma es) ++ map (λ (y : Entry). y.id) (filter is_lemma (e ∷ [])) →
        map (λ (y : Entry). y.id) (cond b (x ∷ filter is_lemma (es ++ e ∷ [])) (filter is_lemma (es ++ e ∷ []))) ≡
        map (λ (y : Entry). y.id) (cond b (x ∷ filter is_lemma es) (filter is_lemma es)) ++ map (λ (y : Entry). y.id) (filter is_lemma (e ∷ []))
    by true rest = ap (λ ids. x.id ∷ ids) rest
    by false rest = rest

-- and without those of some ids
pub ids_without : (f : ℕ → Bool) (es : List Entry) →
    map (λ (x : Entry). x.id) (filter is_lemma (filter (λ x. f x.id) es)) ≡ filter f (map (λ (x : Entry). x.id) (filter is_lemma es))
ids_without f [] = refl
ids_without f (x ∷ es) = by (f x.id) refl (is_lemma x) refl (ids_without f es)
  where
    by : (a : Bool) → f x.id ≡ a → (b : Bool) → is_lemma x ≡ b →
        map (λ (y : Entry). y.id) (filter is_lemma (filter (λ y. f y.id) es)) ≡ filter f (map (λ (y : Entry). y.id) (filter is_lemma es)) →
        map (λ (y : Entry). y.id) (filter is_lemma (cond a (x ∷ filter (λ y. f y.id) es) (filter (λ y. f y.id) es))) ≡
        filter f (map (λ (y : Entry). y.id) (cond b (x ∷ filter is_lemma es) (filter is_lemma es)))
    by true on true is rest =
        ap (λ c. map (λ (y : Entry). y.id) (cond c (x ∷ filter is_lemma (filter (λ y. f y.id) es)) (filter is_lemma (filter (λ y. f y.id) es)))) is ∙
        ap (λ ids. x.id ∷ ids) rest ∙
        sym (ap (λ c. cond c (x.id ∷ filter f (map (λ (y : Entry). y.id) (filter is_lemma es))) (filter f (map (λ (y : Entry). y.id) (filter is_lemma es)))) on)
    by true on false is rest =
        ap (λ c. map (λ (y : Entry). y.id) (cond c (x ∷ filter is_lemma (filter (λ y. f y.id) es)) (filter is_lemma (filter (λ y. f y.id) es)))) is ∙ rest
    by false off true is rest = rest ∙
        sym (ap (λ c. cond c (x.id ∷ filter f (map (λ (y : Entry). y.id) (filter is_lemma es)))
        (filter f (map (λ (y : Entry). y.id) (filter is_lemma es)))) off)
    by false off false is rest = rest
