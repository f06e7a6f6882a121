-- What a push and a removal do to the live clauses.
use Rattle.std.proofs.Common.{◌≡◌, ℕ, zero, suc, ◌+◌, ◌<◌, ◌≤◌, arith, true, false, not, ◌||◌, cond, List, [], ◌∷◌, ◌++◌, length, get_or, set, refl}
use Rattle.std.proofs.Common.{sym, ap, ◌∙◌, eqb}
use Rattle.std.proofs.Common.{take}
use Rattle.std.proofs.lemmas.List.{take_more, take_all, length-take}
use Rattle.bs_clause.specs.Literal.{Clause}
use Rattle.bs_log.specs.declared.origin.Origin.TheVariants.{Axiom}
use Rattle.std.specs.List.{filter, list_any, AllByRecursion}
use Rattle.std.proofs.lemmas.Bool.{eq-eqb, ne_eqb}
use Rattle.std.proofs.lemmas.List.Folds.{list_any-append}
use Rattle.bs_log.specs.History.{Entry, axioms_from}
use Rattle.bs_rup.specs.declared.live_clauses.Stored.{Stored}
use Rattle.bs_rup.specs.LiveClauses.{entry_from, live_from}

pub live_from-push : (n : ℕ) (ss : List Stored) (s : Stored) (id : ℕ) → s.live ≡ true → id ≡ n + length ss →
    live_from n (ss ++ s ∷ []) ≡ live_from n ss ++ entry_from id s ∷ []
live_from-push n [] s id live at =
    ap (λ b. cond b (entry_from n s ∷ []) []) live ∙ ap (λ k. entry_from k s ∷ []) (let e : n ≡ id = omega arith in e)
live_from-push n (x ∷ xs) s id live at =
    let rest : live_from (n + 1) (xs ++ s ∷ []) ≡ live_from (n + 1) xs ++ entry_from id s ∷ [] = live_from-push (n + 1) xs s id live (omega arith) in
    elim (x.live) as (λ b. cond b (entry_from n x ∷ live_from (n + 1) (xs ++ s ∷ [])) (live_from (n + 1) (xs ++ s ∷ [])) ≡
    cond b (entry_from n x ∷ live_from (n + 1) xs) (live_from (n + 1) xs) ++ entry_from id s ∷ []) [
      | true ↦ ap (λ r. entry_from n x ∷ r) rest
      | false ↦ rest
    ]

-- no entry from n on has a lower id
pub others_stay : (n : ℕ) (ss : List Stored) (id : ℕ) → id < n → filter (λ e. not (eqb e.id id)) (live_from n ss) ≡ live_from n ss
others_stay n [] id h = refl
others_stay n (s ∷ ss) id h =
    let other : eqb n id ≡ false = ne_eqb n id (λ e. omega arith) in
    let rest : filter (λ e. not (eqb e.id id)) (live_from (n + 1) ss) ≡ live_from (n + 1) ss = others_stay (n + 1) ss id (omega arith) in
    elim (s.live) as (λ b. filter (λ e. not (eqb e.id id)) (cond b (entry_from n s ∷ live_from (n + 1) ss) (live_from (n + 1) ss)) ≡ cond b
    (entry_from n s ∷ live_from (n + 1) ss) (live_from (n + 1) ss)) [
      | true ↦ ap (λ b. cond (not b) (entry_from n s ∷ filter (λ e. not (eqb e.id id)) (live_from (n + 1) ss))
          (filter (λ e. not (eqb e.id id)) (live_from (n + 1) ss))) other ∙ ap (λ r. entry_from n s ∷ r) rest
      | false ↦ rest
    ]

pub live_from-kill : (n : ℕ) (ss : List Stored) (k id : ℕ) (s : Stored) → s.live ≡ false → k < length ss → id ≡ n + k →
    live_from n (set ss k s) ≡ filter (λ e. not (eqb e.id id)) (live_from n ss)
live_from-kill n [] k id s dead h at = absurd (omega arith)
live_from-kill n (x ∷ xs) zero id s dead h at =
    let here : eqb n id ≡ true = eq-eqb n id (omega arith) in
    let rest : filter (λ e. not (eqb e.id id)) (live_from (n + 1) xs) ≡ live_from (n + 1) xs = others_stay (n + 1) xs id (omega arith) in
    ap (λ b. cond b (entry_from n s ∷ live_from (n + 1) xs) (live_from (n + 1) xs)) dead ∙
    sym (elim (x.live) as
    (λ b. filter (λ e. not (eqb e.id id)) (cond b (entry_from n x ∷ live_from (n + 1) xs) (live_from (n + 1) xs)) ≡ live_from (n + 1) xs) [
      | true ↦ ap (λ b. cond (not b) (entry_from n x ∷ filter (λ e. not (eqb e.id id)) (live_from (n + 1) xs))
          (filter (λ e. not (eqb e.id id)) (live_from (n + 1) xs))) here ∙ rest
      | false ↦ rest
    ])
live_from-kill n (x ∷ xs) (suc k) id s dead h at =
    let other : eqb n id ≡ false = ne_eqb n id (λ e. omega arith) in
    let rest : live_from (n + 1) (set xs k s) ≡ filter (λ e. not (eqb e.id id)) (live_from (n + 1) xs) =
    live_from-kill (n + 1) xs k id s dead (omega arith) (omega arith) in
    elim (x.live) as (λ b. cond b (entry_from n x ∷ live_from (n + 1) (set xs k s)) (live_from (n + 1) (set xs k s)) ≡
    filter (λ e. not (eqb e.id id)) (cond b (entry_from n x ∷ live_from (n + 1) xs) (live_from (n + 1) xs))) [
      | true ↦ ap (λ r. entry_from n x ∷ r) rest
          ∙ sym (ap (λ b. cond (not b) (entry_from n x ∷ filter (λ e. not (eqb e.id id)) (live_from (n + 1) xs))
          (filter (λ e. not (eqb e.id id)) (live_from (n + 1) xs))) other)
      | false ↦ rest
    ]

-- one id more is taken away
pub filter_one_more : (done : List ℕ) (id : ℕ) (es : List Entry) →
    filter (λ e. not (eqb e.id id)) (filter (λ e. not (list_any (λ d. eqb e.id d) done)) es) ≡ filter
    (λ e. not (list_any (λ d. eqb e.id d) (done ++ id ∷ []))) es
filter_one_more done id [] = refl
filter_one_more done id (e ∷ es) =
    let rest : filter (λ e. not (eqb e.id id)) (filter (λ e. not (list_any (λ d. eqb e.id d) done)) es) ≡ filter
    (λ e. not (list_any (λ d. eqb e.id d) (done ++ id ∷ []))) es =
    filter_one_more done id es in
    let joined : list_any (λ d. eqb e.id d) (done ++ id ∷ []) ≡ (list_any (λ d. eqb e.id d) done || (eqb e.id id || false)) =
    list_any-append (λ d. eqb e.id d) done (id ∷ []) in
    (elim (list_any (λ d. eqb e.id d) done) as (λ a.
    filter (λ e. not (eqb e.id id))
    (cond (not a) (e ∷ filter (λ e. not (list_any (λ d. eqb e.id d) done)) es) (filter (λ e. not (list_any (λ d. eqb e.id d) done)) es)) ≡
    cond (not (a || (eqb e.id id || false))) (e ∷ filter (λ e. not (list_any (λ d. eqb e.id d) (done ++ id ∷ []))) es)
    (filter (λ e. not (list_any (λ d. eqb e.id d) (done ++ id ∷ []))) es)) [
      | true ↦ rest
      | false ↦ elim (eqb e.id id) as (λ b.
          cond (not b) (e ∷ filter (λ e. not (eqb e.id id)) (filter (λ e. not (list_any (λ d. eqb e.id d) done)) es))
          (filter (λ e. not (eqb e.id id)) (filter (λ e. not (list_any (λ d. eqb e.id d) done)) es)) ≡
          cond (not (b || false)) (e ∷ filter (λ e. not (list_any (λ d. eqb e.id d) (done ++ id ∷ []))) es)
          (filter (λ e. not (list_any (λ d. eqb e.id d) (done ++ id ∷ []))) es)) [ true ↦ rest | false ↦ ap (λ r. e ∷ r) rest ]
    ]) ∙
    ap (λ t. cond (not t) (e ∷ filter (λ e. not (list_any (λ d. eqb e.id d) (done ++ id ∷ []))) es)
    (filter (λ e. not (list_any (λ d. eqb e.id d) (done ++ id ∷ []))) es)) (sym joined)

pub keep_all : (es : List Entry) → es ≡ filter (λ e. not (list_any (λ d. eqb e.id d) [])) es
keep_all [] = refl
keep_all (e ∷ es) = ap (λ r. e ∷ r) (keep_all es)

-- the step of a loop over ids
pub one_more_gone : (ids : List ℕ) (i : ℕ) (es before after : List Entry) → i < length ids →
    after ≡ filter (λ e. not (eqb e.id (get_or ids i 0))) before → before ≡ filter (λ e. not (list_any (λ d. eqb e.id d) (take i ids))) es →
    after ≡ filter (λ e. not (list_any (λ d. eqb e.id d) (take (i + 1) ids))) es
one_more_gone ids i es before after h now so_far =
    now ∙ ap (filter (λ e. not (eqb e.id (get_or ids i 0)))) so_far ∙ filter_one_more (take i ids) (get_or ids i 0) es ∙
    ap (λ ds. filter (λ e. not (list_any (λ d. eqb e.id d) ds)) es) (sym (take_more ids i 0 h))

pub all_gone : (ids : List ℕ) (i : ℕ) (es after : List Entry) → length ids ≤ i → after ≡ filter (λ e. not (list_any (λ d. eqb e.id d) (take i ids))) es →
    after ≡ filter (λ e. not (list_any (λ d. eqb e.id d) ids)) es
all_gone ids i es after h so_far = so_far ∙ ap (λ ds. filter (λ e. not (list_any (λ d. eqb e.id d) ds)) es) (take_all i ids h)

pub each_at : (P : ℕ → Type 0) (ids : List ℕ) (i : ℕ) → AllByRecursion P ids → i < length ids → P (get_or ids i 0)
each_at P [] i all h = absurd (omega arith)
each_at P (x ∷ xs) zero all h = all.0
each_at P (x ∷ xs) (suc i) all h = each_at P xs i all.1 (omega arith)

axioms_from-push : (n : ℕ) (cs : List Clause) (c : Clause) (id : ℕ) → id ≡ n + length cs →
    axioms_from n (cs ++ c ∷ []) ≡ axioms_from n cs ++ record { id = id; origin = Axiom; literals = c } ∷ []
axioms_from-push n [] c id at = ap (λ k. record { id = k; origin = Axiom; literals = c } ∷ []) (let e : n ≡ id = omega arith in e)
axioms_from-push n (x ∷ xs) c id at = ap (λ r. record { id = n; origin = Axiom; literals = x } ∷ r) (axioms_from-push (n + 1) xs c id (omega arith))

pub axioms_more : (cs : List Clause) (i : ℕ) (d : Clause) → i < length cs →
    axioms_from 1 (take (i + 1) cs) ≡ axioms_from 1 (take i cs) ++ record { id = i + 1; origin = Axiom; literals = get_or cs i d } ∷ []
axioms_more cs i d h = ap (axioms_from 1) (take_more cs i d h) ∙ axioms_from-push 1 (take i cs) (get_or cs i d) (i + 1) (omega (arith, length-take i cs))

pub all_live : (es : List Entry) → filter (λ e. not false) es ≡ es
all_live [] = refl
all_live (e ∷ es) = ap (λ r. e ∷ r) (all_live es)
