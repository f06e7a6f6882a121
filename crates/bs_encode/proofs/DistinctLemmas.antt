-- No variable stands twice in a transition clause, among the literals of the state, or in what a step assumes.
use Rattle.std.proofs.Common.{◌≡◌, ℕ, zero, suc, ◌+◌, ◌<◌, ◌≤◌, Bool, true, false, not, ◌&&◌, cond, List, [], ◌∷◌, ◌++◌, map, eqb, nat_eq, refl, sym}
use Rattle.std.proofs.Common.{ap, ◌∙◌, inl, inr, arith}
use Rattle.std.specs.Prelude.{filter}
use Rattle.std.specs.Bool.{beq}
use Rattle.std.specs.List.{AllByRecursion, IsDistinct, list_any, range_with_len}
use Rattle.std.proofs.lemmas.Bool.{both_ways, and_parts, and_from, and_cases, or_parts, or_from, not-true, false_from_ne_true, true≢false, eqb-true}
use Rattle.std.proofs.lemmas.Bool.{eqb-false, eq-eqb, ne_eqb}
use Rattle.std.proofs.lemmas.List.Folds.{list_any-append}
use Rattle.std.proofs.lemmas.Map.Keys.{IsDistinct-head, IsDistinct-tail}
use Rattle.bs_clause.specs.Literal.{Literal, Clause, negation, same_literal, has_literal}
use Rattle.bs_clause.specs.Resolvent.{without, once}
use Rattle.bs_clause.proofs.News.{has_literal-once}
use Rattle.bs_log.specs.Refusal.{has_distinct_variables}
use Rattle.bs_net.specs.declared.net.Gate.{Gate}
use Rattle.bs_net.specs.declared.net.Flop.{Flop}
use Rattle.bs_net.specs.declared.net.Const.{Const}
use Rattle.bs_net.specs.Circuit.{Circuit, number, state_nets, drivers}
use Rattle.bs_net.specs.Order.{IsChecked}
use Rattle.bs_scan.specs.Seen.{kept}
use Rattle.bs_encode.specs.Tables.{lit}
use Rattle.bs_encode.specs.Transition.{net_var, item_helpers, item_vars, state_vars, is_tautology, tidied, transition_clauses, table_clauses}
use Rattle.bs_encode.specs.Encoded.{literals}
use Rattle.bs_encode.specs.Assuming.{signed}

-- ---- a variable apart from those of a clause

-- whether the variable stands in the clause
abbrev pub names : ℕ → Clause → Bool
names v c = list_any (λ (m : Literal). eqb m.variable v) c

pub distinct_cons : (l : Literal) (c : Clause) → names l.variable c ≡ false → has_distinct_variables c ≡ true → has_distinct_variables (l ∷ c) ≡ true
distinct_cons l c apart rest = and_from (not (names l.variable c)) (has_distinct_variables c) (ap not apart) rest

distinct_parts : (l : Literal) (c : Clause) → has_distinct_variables (l ∷ c) ≡ true → (names l.variable c ≡ false) × (has_distinct_variables c ≡ true)
distinct_parts l c h =
    let parts = and_parts (not (names l.variable c)) (has_distinct_variables c) h in
    (not-true (names l.variable c) parts.0, parts.1)

pub apart_from_each : (v : ℕ) (c : Clause) → AllByRecursion (λ (m : Literal). m.variable ≡ v → ⊥) c → names v c ≡ false
apart_from_each v [] h = refl
apart_from_each v (m ∷ c) h = or_from (eqb m.variable v) (names v c) (ne_eqb m.variable v h.0) (apart_from_each v c h.1)

pub weaken : {X : Type 0} (P Q : X → Type 0) → ((x : X) → P x → Q x) → (xs : List X) → AllByRecursion P xs → AllByRecursion Q xs
weaken P Q f [] h = tt
weaken P Q f (x ∷ xs) h = (f x h.0, weaken P Q f xs h.1)

pub append_apart : (xs ys : Clause) → AllByRecursion (λ (l : Literal). AllByRecursion (λ (m : Literal). m.variable ≡ l.variable → ⊥) ys) xs →
    has_distinct_variables xs ≡ true → has_distinct_variables ys ≡ true → has_distinct_variables (xs ++ ys) ≡ true
append_apart [] ys apart dx dy = dy
append_apart (x ∷ xs) ys apart dx dy =
    let parts = distinct_parts x xs dx in
    distinct_cons x (xs ++ ys) (list_any-append (λ (m : Literal). eqb m.variable x.variable) xs ys
    ∙ or_from (names x.variable xs) (names x.variable ys) parts.0 (apart_from_each x.variable ys apart.0))
    (append_apart xs ys apart.1 parts.1 dy)

-- ---- a clause with each literal once, and without a literal and its negation

any_filter : {X : Type 0} (p test : X → Bool) (xs : List X) → list_any p xs ≡ false → list_any p (filter test xs) ≡ false
any_filter p test [] h = refl
any_filter {X} p test (x ∷ xs) h =
    let parts = or_parts (p x) (list_any p xs) h in
    by (test x) parts.0 (any_filter p test xs parts.1)
  where
    by : (b : Bool) → p x ≡ false → list_any p (filter test xs) ≡ false → list_any p (cond b (x ∷ filter test xs) (filter test xs)) ≡ false
    by true here rest = or_from (p x) (list_any p (filter test xs)) here rest
    by false here rest = rest

distinct_filter : (test : Literal → Bool) (c : Clause) → has_distinct_variables c ≡ true → has_distinct_variables (filter test c) ≡ true
distinct_filter test [] h = refl
distinct_filter test (l ∷ c) h =
    let parts = distinct_parts l c h in
    by (test l) parts.0 (distinct_filter test c parts.1)
  where
    by : (b : Bool) → names l.variable c ≡ false → has_distinct_variables (filter test c) ≡ true →
        has_distinct_variables (cond b (l ∷ filter test c) (filter test c)) ≡ true
    by true apart rest = distinct_cons l (filter test c) (any_filter (λ (m : Literal). eqb m.variable l.variable) test c apart) rest
    by false apart rest = rest

some_sign : (x y : Bool) → beq x y ≡ false → beq (not x) y ≡ false → ⊥
some_sign true true e f = true≢false e
some_sign true false e f = true≢false f
some_sign false true e f = true≢false f
some_sign false false e f = true≢false e

-- a literal that is neither l nor its negation has another variable
other_variable : (l m : Literal) → same_literal l m ≡ false → same_literal (negation l) m ≡ false → eqb m.variable l.variable ≡ false
other_variable l m e f =
    false_from_ne_true (eqb m.variable l.variable)
    (λ same.
    let s : eqb l.variable m.variable ≡ true = eq-eqb l.variable m.variable (sym (eqb-true m.variable l.variable same)) in
    let one : beq l.positive m.positive ≡ false = sign s (beq l.positive m.positive) e in
    let other : beq (not l.positive) m.positive ≡ false = sign s (beq (not l.positive) m.positive) f in
    some_sign l.positive m.positive one other)
  where
    sign : eqb l.variable m.variable ≡ true → (b : Bool) → (eqb l.variable m.variable && b) ≡ false → b ≡ false
    sign s b h =
        elim (and_cases (eqb l.variable m.variable) b h) [
          | inl other ↦ absurd (both_ways (eqb l.variable m.variable) other s)
          | inr is ↦ is
        ]

apart_without : (l : Literal) (c : Clause) → has_literal c (negation l) ≡ false → names l.variable (without l c) ≡ false
apart_without l [] h = refl
apart_without l (m ∷ c) h =
    let parts = or_parts (same_literal (negation l) m) (has_literal c (negation l)) h in
    by (same_literal l m) refl parts.0 (apart_without l c parts.1)
  where
    by : (b : Bool) → same_literal l m ≡ b → same_literal (negation l) m ≡ false → names l.variable (without l c) ≡ false →
        names l.variable (cond (not b) (m ∷ without l c) (without l c)) ≡ false
    by true e f rest = rest
    by false e f rest = or_from (eqb m.variable l.variable) (names l.variable (without l c)) (other_variable l m e f) rest

weaker_any : {X : Type 0} (p q : X → Bool) → ((x : X) → q x ≡ false → p x ≡ false) → (xs : List X) → list_any q xs ≡ false → list_any p xs ≡ false
weaker_any p q f [] h = refl
weaker_any p q f (x ∷ xs) h =
    let parts = or_parts (q x) (list_any q xs) h in
    or_from (p x) (list_any p xs) (f x parts.0) (weaker_any p q f xs parts.1)

once_distinct : (c : Clause) → is_tautology c ≡ false → has_distinct_variables (once c) ≡ true
once_distinct [] h = refl
once_distinct (l ∷ c) h =
    let parts = or_parts (has_literal (l ∷ c) (negation l)) (list_any (λ m. has_literal (l ∷ c) (negation m)) c) h in
    let absent = or_parts (same_literal (negation l) l) (has_literal c (negation l)) parts.0 in
    let tail : is_tautology c ≡ false =
    weaker_any (λ m. has_literal c (negation m)) (λ m. has_literal (l ∷ c) (negation m))
    (λ m e. (or_parts (same_literal (negation m) l) (has_literal c (negation m)) e).1) c parts.1 in
    distinct_cons l (without l (once c)) (apart_without l (once c) (has_literal-once c (negation l) ∙ absent.1))
    (distinct_filter (λ m. not (same_literal l m)) (once c) (once_distinct c tail))

tidied_distinct : (cs : List Clause) → AllByRecursion (λ (d : Clause). has_distinct_variables d ≡ true) (tidied cs)
tidied_distinct [] = tt
tidied_distinct (c ∷ cs) = by (is_tautology c) refl (tidied_distinct cs)
  where
    by : (b : Bool) → is_tautology c ≡ b → AllByRecursion (λ (d : Clause). has_distinct_variables d ≡ true) (tidied cs) →
        AllByRecursion (λ (d : Clause). has_distinct_variables d ≡ true)
        (map once (cond (not b) (c ∷ filter (λ d. not (is_tautology d)) cs) (filter (λ d. not (is_tautology d)) cs)))
    by true e rest = rest
    by false e rest = (once_distinct c e, rest)

pub transition_distinct : (c : Circuit) (items : List (List ℕ)) → AllByRecursion (λ (d : Clause). has_distinct_variables d ≡ true) (transition_clauses c items)
transition_distinct c items = tidied_distinct (table_clauses c items)

-- ---- signs change no variable

pub signed_all : (P : ℕ → Type 0) (c : Clause) (bs : List Bool) → AllByRecursion (λ (l : Literal). P l.variable) c →
    AllByRecursion (λ (l : Literal). P l.variable) (signed c bs)
signed_all P [] bs h = tt
signed_all P (l ∷ c) [] h = tt
signed_all P (l ∷ c) (b ∷ bs) h = (h.0, signed_all P c bs h.1)

signed_apart : (v : ℕ) (c : Clause) (bs : List Bool) → names v c ≡ false → names v (signed c bs) ≡ false
signed_apart v [] bs h = refl
signed_apart v (l ∷ c) [] h = refl
signed_apart v (l ∷ c) (b ∷ bs) h =
    let parts = or_parts (eqb l.variable v) (names v c) h in
    or_from (eqb l.variable v) (names v (signed c bs)) parts.0 (signed_apart v c bs parts.1)

pub signed_distinct : (c : Clause) (bs : List Bool) → has_distinct_variables c ≡ true → has_distinct_variables (signed c bs) ≡ true
signed_distinct [] bs h = refl
signed_distinct (l ∷ c) [] h = refl
signed_distinct (l ∷ c) (b ∷ bs) h =
    let parts = distinct_parts l c h in
    distinct_cons (lit l.variable b) (signed c bs) (signed_apart l.variable c bs parts.0) (signed_distinct c bs parts.1)

-- ---- nor does leaving some out

kept_apart : (v : ℕ) (frees : List Bool) (c : Clause) → names v c ≡ false → names v (kept frees c) ≡ false
kept_apart v [] c h = h
kept_apart v (free ∷ frees) [] h = refl
kept_apart v (free ∷ frees) (l ∷ c) h =
    let parts = or_parts (eqb l.variable v) (names v c) h in
    by free parts.0 (kept_apart v frees c parts.1)
  where
    by : (free : Bool) → eqb l.variable v ≡ false → names v (kept frees c) ≡ false → names v (kept (free ∷ frees) (l ∷ c)) ≡ false
    by true here rest = rest
    by false here rest = or_from (eqb l.variable v) (names v (kept frees c)) here rest

pub kept_distinct : (frees : List Bool) (c : Clause) → has_distinct_variables c ≡ true → has_distinct_variables (kept frees c) ≡ true
kept_distinct [] c h = h
kept_distinct (free ∷ frees) [] h = refl
kept_distinct (free ∷ frees) (l ∷ c) h =
    let parts = distinct_parts l c h in
    by free parts.0 (kept_distinct frees c parts.1)
  where
    by : (free : Bool) → names l.variable c ≡ false → has_distinct_variables (kept frees c) ≡ true →
        has_distinct_variables (kept (free ∷ frees) (l ∷ c)) ≡ true
    by true here rest = rest
    by false here rest = distinct_cons l (kept frees c) (kept_apart l.variable frees c here) rest

-- ---- the next variables are a range, and the items' ascend

pub above_numbers : (m j k : ℕ) → m ≤ j → AllByRecursion (λ (l : Literal). m ≤ l.variable) (literals (range_with_len j k))
above_numbers m j zero le = tt
above_numbers m j (suc k) le = (le, above_numbers m (j + 1) k (omega (arith, le)))

pub below_numbers : (n j k : ℕ) → j + k ≤ n → AllByRecursion (λ (l : Literal). l.variable < n) (literals (range_with_len j k))
below_numbers n j zero le = tt
below_numbers n j (suc k) le = (omega (arith, le), below_numbers n (j + 1) k (omega (arith, le)))

pub numbers_distinct : (j k : ℕ) → has_distinct_variables (literals (range_with_len j k)) ≡ true
numbers_distinct j zero = refl
numbers_distinct j (suc k) =
    distinct_cons (lit j true) (literals (range_with_len (j + 1) k))
    (apart_from_each j (literals (range_with_len (j + 1) k))
    (weaken (λ (m : Literal). j + 1 ≤ m.variable) (λ (m : Literal). m.variable ≡ j → ⊥) (λ m le e. omega (arith, le, e)) (literals (range_with_len (j + 1) k))
    (above_numbers (j + 1) (j + 1) k (omega arith))))
    (numbers_distinct (j + 1) k)

pub above_items : (m v : ℕ) (items : List (List ℕ)) → m ≤ v → AllByRecursion (λ (l : Literal). m ≤ l.variable) (literals (item_vars v items))
above_items m v [] le = tt
above_items m v (item ∷ items) le = (omega (arith, le), above_items m (v + item_helpers item + 1) items (omega (arith, le)))

pub items_distinct : (v : ℕ) (items : List (List ℕ)) → has_distinct_variables (literals (item_vars v items)) ≡ true
items_distinct v [] = refl
items_distinct v (item ∷ items) =
    let own : ℕ = v + item_helpers item in
    distinct_cons (lit own true) (literals (item_vars (own + 1) items))
    (apart_from_each own (literals (item_vars (own + 1) items))
    (weaken (λ (m : Literal). own + 1 ≤ m.variable) (λ (m : Literal). m.variable ≡ own → ⊥) (λ m le e. omega (arith, le, e))
    (literals (item_vars (own + 1) items)) (above_items (own + 1) (own + 1) items (omega arith))))
    (items_distinct (own + 1) items)

-- ---- the flip-flops' outputs have one driver each

pub left_all : {X : Type 0} (P : X → Type 0) (xs ys : List X) → AllByRecursion P (xs ++ ys) → AllByRecursion P xs
left_all P [] ys h = tt
left_all P (x ∷ xs) ys h = (h.0, left_all P xs ys h.1)

pub right_all : {X : Type 0} (P : X → Type 0) (xs ys : List X) → AllByRecursion P (xs ++ ys) → AllByRecursion P ys
right_all P [] ys h = h
right_all P (x ∷ xs) ys h = right_all P xs ys h.1

left_distinct : (xs ys : List ℕ) → IsDistinct nat_eq (xs ++ ys) → IsDistinct nat_eq xs
unfolding IsDistinct
left_distinct [] ys h = tt
left_distinct (x ∷ xs) ys h =
    (left_all (λ y. nat_eq x y ≡ false) xs ys (IsDistinct-head nat_eq x (xs ++ ys) h), left_distinct xs ys (IsDistinct-tail nat_eq x (xs ++ ys) h))

right_distinct : (xs ys : List ℕ) → IsDistinct nat_eq (xs ++ ys) → IsDistinct nat_eq ys
right_distinct [] ys h = h
right_distinct (x ∷ xs) ys h = right_distinct xs ys (IsDistinct-tail nat_eq x (xs ++ ys) h)

state_apart : (n : ℕ) (fs : List Flop) → AllByRecursion (λ y. nat_eq n y ≡ false) (map number (map (λ (f : Flop). f.q) fs)) →
    names (n + 1) (literals (map (λ (f : Flop). net_var f.q) fs)) ≡ false
state_apart n [] h = refl
state_apart n (f ∷ fs) h =
    or_from (eqb (f.q.0 + 1) (n + 1)) (names (n + 1) (literals (map (λ (g : Flop). net_var g.q) fs)))
    (ne_eqb (f.q.0 + 1) (n + 1) (λ e. eqb-false n f.q.0 h.0 (omega (arith, e)))) (state_apart n fs h.1)

nets_distinct : (fs : List Flop) → IsDistinct nat_eq (map number (map (λ (f : Flop). f.q) fs)) →
    has_distinct_variables (literals (map (λ (f : Flop). net_var f.q) fs)) ≡ true
nets_distinct [] h = refl
nets_distinct (f ∷ fs) h =
    let rest = map number (map (λ (g : Flop). g.q) fs) in
    distinct_cons (lit (net_var f.q) true) (literals (map (λ (g : Flop). net_var g.q) fs))
    (state_apart f.q.0 fs (IsDistinct-head nat_eq f.q.0 rest h)) (nets_distinct fs (IsDistinct-tail nat_eq f.q.0 rest h))

pub states_distinct : (c : Circuit) → IsChecked c → has_distinct_variables (literals (state_vars c)) ≡ true
states_distinct c checked =
    let states : List ℕ = map number (state_nets c) in
    let driven : List ℕ = map (λ (k : Const). k.net.0) c.constants ++ map (λ (g : Gate). g.out.0) c.gates in
    nets_distinct c.flops
    (left_distinct states driven (right_distinct (map number c.inputs) (states ++ driven) (IsDistinct-tail nat_eq c.clock.0 (drivers c) checked.single_driver)))
