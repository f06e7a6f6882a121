-- Literals of clauses: filters, distinct variables, membership.
use Rattle.std.proofs.Common.{◌≡◌, ◌≢◌, ℕ, zero, suc, arith, Bool, true, false, not, ◌||◌, cond, List, [], ◌∷◌, ◌++◌, get_or, refl, sym, ap}
use Rattle.std.proofs.Common.{subst, ◌∙◌, inl, inr, ◌⊎◌, eqb}
use Rattle.std.specs.Prelude.{All, Any, Contains}
use Rattle.std.specs.List.{list_any, list_all, filter}
use Rattle.std.proofs.lemmas.Bool.{cases_Bool, false≢true, and_from, and_parts, both_ways, not-true, eqb-true, eq-eqb, false_from_ne_true}
use Rattle.std.proofs.lemmas.List.Elements.{Contains-get_or, Contains-append_cases, Contains-append_left, Contains-append_right}
use Rattle.bs_clause.specs.Literal.{Literal, Clause, negation, same_literal, has_literal}
use Rattle.bs_clause.specs.Resolvent.{resolvent, without, once, news}
use Rattle.bs_clause.proofs.Literals.{same_literal-true}
use Rattle.bs_log.specs.Refusal.{has_distinct_variables}
pub use Rattle.bs_watch.proofs.Members.{nothing_in, contains_first, cons_contains, contains_cases, map_cases, map_contains, filter_cases, filter_from}
use Rattle.bs_solve_lemmas.proofs.Literals.{Contains-from_has, same_literal-refl}

pub all_from : {X : Type 0} (P : X → Type 0) (xs : List X) → ((x : X) → Contains xs x → P x) → All P xs
all_from P xs f = λ k d h. f (get_or xs k d) (Contains-get_or xs k d h)

pub all_list : {X : Type 0} (q : X → Bool) (xs : List X) → All (λ x. q x ≡ true) xs → list_all q xs ≡ true
all_list q [] all = refl
all_list q (x ∷ xs) all = and_from (q x) (list_all q xs) (all 0 x (omega arith)) (all_list q xs (λ k d h. all (suc k) d (omega (arith, h))))

pub any_cases : {X : Type 0} (P : X → Type 0) (x : X) (xs : List X) → Any P (x ∷ xs) → P x ⊎ Any P xs
any_cases P x xs (zero, y, h, e, p) = inl (subst P (sym e) p)
any_cases P x xs (suc k, y, h, e, p) = inr (k, y, omega (arith, h), e, p)

pub any_first : {X : Type 0} (P : X → Type 0) (x : X) (xs : List X) → P x → Any P (x ∷ xs)
any_first P x xs p = (0, x, omega arith, refl, p)

pub any_later : {X : Type 0} (P : X → Type 0) (x : X) (xs : List X) → Any P xs → Any P (x ∷ xs)
any_later P x xs (k, y, h, e, p) = (suc k, y, omega (arith, h), e, p)

-- ---- equal literals

pub same_or_not : (a b : Literal) → (a ≡ b) ⊎ (same_literal a b ≡ false)
same_or_not a b = elim (cases_Bool (same_literal a b)) [ inl t ↦ inl (same_literal-true a b t) | inr f ↦ inr f ]

pub not_same : (a b : Literal) → same_literal a b ≡ false → a ≢ b
not_same a b f e = false≢true (sym f ∙ ap (same_literal a) (sym e) ∙ same_literal-refl a)

pub differ : (a b : Literal) → a ≢ b → same_literal a b ≡ false
differ a b n = false_from_ne_true (same_literal a b) (λ t. n (same_literal-true a b t))

pub not-false : (b : Bool) → b ≡ false → not b ≡ true
not-false b e = ap not e

-- ---- the resolvent's literals

pub once_cases : (c : Clause) (m : Literal) → Contains (once c) m → Contains c m
once_cases [] m there = there
once_cases (l ∷ c) m there = elim (contains_cases l (without l (once c)) m there) [
  | inl same ↦ subst (Contains (l ∷ c)) same (contains_first l c)
  | inr later ↦ cons_contains l c m (once_cases c m (filter_cases (λ x. not (same_literal l x)) (once c) m later).0)
]

pub once_from : (c : Clause) (m : Literal) → Contains c m → Contains (once c) m
once_from [] m there = there
once_from (l ∷ c) m there = elim (same_or_not l m) [
  | inl same ↦ subst (Contains (once (l ∷ c))) same (contains_first l (without l (once c)))
  | inr other ↦ elim (contains_cases l c m there) [
    | inl same ↦ absurd (not_same l m other same)
    | inr later ↦ cons_contains l (without l (once c)) m
        (filter_from (λ x. not (same_literal l x)) (once c) m (once_from c m later) (not-false (same_literal l m) other))
  ]
]

-- what was not there, and stands in the clause
pub news_cases : (there c : Clause) (m : Literal) → Contains (news there c) m → Contains c m × (has_literal there m ≡ false)
news_cases there c m h =
    let r = filter_cases (λ x. not (has_literal there x)) (once c) m h in
    (once_cases c m r.0, not-true (has_literal there m) r.1)

pub resolvent_cases : (c left : Clause) (p m : Literal) → Contains (resolvent c left p) m → (Contains c m × (m ≢ p)) ⊎ (Contains left m × (m ≢ negation p))
resolvent_cases c left p m there =
    elim (Contains-append_cases (without p c) (news (without p c) (without (negation p) left)) m there) [
      | inl here ↦
          let r = filter_cases (λ x. not (same_literal p x)) c m here in
          inl (r.0, λ e. not_same p m (not-true (same_literal p m) r.1) (sym e))
      | inr later ↦
          let r = news_cases (without p c) (without (negation p) left) m later in
          let q = filter_cases (λ x. not (same_literal (negation p) x)) left m r.0 in
          inr (q.0, λ e. not_same (negation p) m (not-true (same_literal (negation p) m) q.1) (sym e))
    ]

pub resolvent_reason : (c left : Clause) (p m : Literal) → Contains c m → m ≢ p → Contains (resolvent c left p) m
resolvent_reason c left p m there other =
    Contains-append_left (without p c) (news (without p c) (without (negation p) left)) m
    (filter_from (λ x. not (same_literal p x)) c m there (not-false (same_literal p m) (differ p m (λ e. other (sym e)))))

pub resolvent_left : (c left : Clause) (p m : Literal) → Contains left m → m ≢ negation p → Contains (resolvent c left p) m
resolvent_left c left p m there other = elim (cases_Bool (has_literal (without p c) m)) [
  | inl has ↦ Contains-append_left (without p c) (news (without p c) (without (negation p) left)) m (Contains-from_has (without p c) m has)
  | inr missing ↦
      Contains-append_right (without p c) (news (without p c) (without (negation p) left)) m
      (filter_from (λ x. not (has_literal (without p c) x)) (once (without (negation p) left)) m
      (once_from (without (negation p) left) m
      (filter_from (λ x. not (same_literal (negation p) x)) left m there
      (not-false (same_literal (negation p) m) (differ (negation p) m (λ e. other (sym e))))))
      (not-false (has_literal (without p c) m) missing))
]

-- ---- distinct variables

pub none_of : (v : ℕ) (ls : Clause) → ((m : Literal) → Contains ls m → m.variable ≢ v) → list_any (λ m. eqb m.variable v) ls ≡ false
none_of v [] f = refl
none_of v (l ∷ ls) f =
    ap (λ b. b || list_any (λ m. eqb m.variable v) ls) (false_from_ne_true (eqb l.variable v) (λ t. f l (contains_first l ls) (eqb-true l.variable v t))) ∙
    none_of v ls (λ m c. f m (cons_contains l ls m c))

pub distinct_cons : (l : Literal) (ls : Clause) → ((m : Literal) → Contains ls m → m.variable ≢ l.variable) → has_distinct_variables ls ≡ true →
    has_distinct_variables (l ∷ ls) ≡ true
distinct_cons l ls f d = and_from (not (list_any (λ m. eqb m.variable l.variable) ls)) (has_distinct_variables ls) (ap not (none_of l.variable ls f)) d

some_of : (v : ℕ) (ls : Clause) (m : Literal) → Contains ls m → m.variable ≡ v → list_any (λ x. eqb x.variable v) ls ≡ true
some_of v [] m c e = absurd (nothing_in m c)
some_of v (l ∷ ls) m c e = by (eqb l.variable v) refl (contains_cases l ls m c) (λ there. some_of v ls m there e)
  where
    by : (b : Bool) → eqb l.variable v ≡ b → (l ≡ m) ⊎ Contains ls m → (Contains ls m → list_any (λ x. eqb x.variable v) ls ≡ true) →
        (b || list_any (λ x. eqb x.variable v) ls) ≡ true
    by true t h rest = refl
    by false t (inl same) rest = absurd (both_ways (eqb l.variable v) t (eq-eqb l.variable v (ap (λ (x : Literal). x.variable) same ∙ e)))
    by false t (inr there) rest = rest there

pub distinct_parts : (l : Literal) (ls : Clause) → has_distinct_variables (l ∷ ls) ≡ true →
    ((m : Literal) → Contains ls m → m.variable ≢ l.variable) × (has_distinct_variables ls ≡ true)
distinct_parts l ls d =
    let parts = and_parts (not (list_any (λ m. eqb m.variable l.variable) ls)) (has_distinct_variables ls) d in (
      (λ m c e. both_ways (list_any (λ x. eqb x.variable l.variable) ls) (not-true (list_any (λ x. eqb x.variable l.variable) ls) parts.0)
          (some_of l.variable ls m c e)),
      parts.1,
    )

pub distinct_filter : (q : Literal → Bool) (ls : Clause) → has_distinct_variables ls ≡ true → has_distinct_variables (filter q ls) ≡ true
distinct_filter q [] d = refl
distinct_filter q (l ∷ ls) d = by (q l) refl (distinct_filter q ls (distinct_parts l ls d).1)
  where
    by : (b : Bool) → q l ≡ b → has_distinct_variables (filter q ls) ≡ true → has_distinct_variables (cond b (l ∷ filter q ls) (filter q ls)) ≡ true
    by true e rest = distinct_cons l (filter q ls) (λ m c. (distinct_parts l ls d).0 m (filter_cases q ls m c).0) rest
    by false e rest = rest

pub distinct_append : (xs ys : Clause) → has_distinct_variables xs ≡ true → has_distinct_variables ys ≡ true →
    ((x y : Literal) → Contains xs x → Contains ys y → y.variable ≢ x.variable) → has_distinct_variables (xs ++ ys) ≡ true
distinct_append [] ys dx dy f = dy
distinct_append (x ∷ xs) ys dx dy f =
    let parts = distinct_parts x xs dx in
    distinct_cons x (xs ++ ys)
    (λ m c. elim (Contains-append_cases xs ys m c) [ inl in_xs ↦ parts.0 m in_xs | inr in_ys ↦ f x m (contains_first x xs) in_ys ])
    (distinct_append xs ys parts.1 dy (λ a b ca cb. f a b (cons_contains x xs a ca) cb))

-- a literal of no variable of the list
pub has_none : (xs : Clause) (l : Literal) → ((m : Literal) → Contains xs m → m.variable ≢ l.variable) → has_literal xs l ≡ false
has_none xs l f = false_from_ne_true (has_literal xs l) (λ t. f l (Contains-from_has xs l t) refl)

pub distinct_once : (c : Clause) → has_distinct_variables c ≡ true → has_distinct_variables (once c) ≡ true
distinct_once [] d = refl
distinct_once (l ∷ c) d =
    let parts = distinct_parts l c d in
    distinct_cons l (without l (once c))
    (λ m there. parts.0 m (once_cases c m (filter_cases (λ x. not (same_literal l x)) (once c) m there).0))
    (distinct_filter (λ x. not (same_literal l x)) (once c) (distinct_once c parts.1))
