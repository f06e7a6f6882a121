-- A chain makes a right lemma.
use Rattle.std.proofs.Common.{◌≡◌, ◌≢◌, ℕ, zero, suc, ◌+◌, ◌-◌, ◌<◌, ◌≤◌, arith, true, false, List, [], ◌∷◌, ◌++◌, map, length, drop, refl, sym, ap, subst, ◌∙◌, inl, inr, ◌⊎◌, Some}
use Rattle.std.specs.Prelude.{All, Any, Contains, slice_get, IsTrue}
use Rattle.std.proofs.lemmas.Bool.{cases_lt}
use Rattle.std.proofs.lemmas.List.Elements.{All-contains, recursion_from_All, Contains-append_left, Contains-append_right, Contains-append_cases}
use Rattle.bs_clause.specs.Literal.{Literal, Clause, negation, has_literal}
use Rattle.bs_log.specs.Refusal.{has_distinct_variables}
use Rattle.bs_log.specs.Propagation.{start_of, hints_are_unit, last_is_false}
use Rattle.bs_log.specs.Lean.{IsResolventOf, implied_by}
use Rattle.bs_watch.proofs.Gets.{same_some, none_is_not_some, get_within, get_from_Contains, Contains_from_get}
use Rattle.bs_solve_lemmas.specs.Chain.{Link, hints_of, IsChain, IsDenied}
use Rattle.bs_solve_lemmas.proofs.Literals.{has-from_Contains, Contains-from_has}
use Rattle.bs_solve_lemmas.proofs.Clauses.{nothing_in, cons_contains, contains_first, contains_cases, all_from, has_none}
use Rattle.bs_solve_lemmas.proofs.Chains.{chains_are_right}
use Rattle.bs_reach_unrolled.specs.Chain.{IsProvedBy, IsBefore, IsNeeded, AreMade}

-- ---- the clauses before the last, each with its literal

abbrev links_of : List Literal → List Clause → List Link
links_of [] cs = []
links_of (l ∷ ls) [] = []
links_of (l ∷ ls) (c ∷ []) = []
links_of (l ∷ ls) (c ∷ d ∷ cs) = record { literal = l; clause = c } ∷ links_of ls (d ∷ cs)

abbrev last_of : List Clause → Clause
last_of [] = []
last_of (c ∷ []) = c
last_of (c ∷ d ∷ cs) = last_of (d ∷ cs)

hints_are : (ls : List Literal) (cs : List Clause) → length ls ≡ length cs → 0 < length cs → hints_of (links_of ls cs) (last_of cs) ≡ cs
hints_are [] [] same some = absurd (omega (arith, some))
hints_are [] (c ∷ cs) same some = absurd (omega (arith, same))
hints_are (l ∷ ls) [] same some = absurd (omega (arith, same))
hints_are (l ∷ ls) (c ∷ []) same some = refl
hints_are (l ∷ ls) (c ∷ d ∷ cs) same some = ap (λ xs. c ∷ xs) (hints_are ls (d ∷ cs) (omega (arith, same)) (omega arith))

-- the literals that the links make true are all but the last
implied_at : (ls : List Literal) (cs : List Clause) (k : ℕ) (l : Literal) → length ls ≡ length cs →
    slice_get (map (λ (x : Link). x.literal) (links_of ls cs)) k ≡ Some l → (slice_get ls k ≡ Some l) × (k + 1 < length ls)
implied_at [] cs k l same at = absurd (none_is_not_some l at)
implied_at (x ∷ ls) [] k l same at = absurd (none_is_not_some l at)
implied_at (x ∷ ls) (c ∷ []) k l same at = absurd (none_is_not_some l at)
implied_at (x ∷ ls) (c ∷ d ∷ cs) zero l same at = (at, let n : length ls ≡ length (d ∷ cs) = omega (arith, same) in omega (arith, n))
implied_at (x ∷ ls) (c ∷ d ∷ cs) (suc k) l same at =
    let r = implied_at ls (d ∷ cs) k l (omega (arith, same)) at in (r.0, let h = r.1 in omega (arith, h))

at_implied : (ls : List Literal) (cs : List Clause) (k : ℕ) (l : Literal) → length ls ≡ length cs → slice_get ls k ≡ Some l → k + 1 < length ls →
    slice_get (map (λ (x : Link). x.literal) (links_of ls cs)) k ≡ Some l
at_implied [] cs k l same at low = absurd (none_is_not_some l at)
at_implied (x ∷ ls) [] k l same at low = absurd (omega (arith, same))
at_implied (x ∷ ls) (c ∷ []) k l same at low = absurd (omega (arith, same, low))
at_implied (x ∷ ls) (c ∷ d ∷ cs) zero l same at low = at
at_implied (x ∷ ls) (c ∷ d ∷ cs) (suc k) l same at low = at_implied ls (d ∷ cs) k l (omega (arith, same)) at (omega (arith, low))

any_behind : (P : Clause → Type 0) (cs : List Clause) (i j : ℕ) (c : Clause) → i ≤ j → slice_get cs j ≡ Some c → P c → Any P (drop i cs)
any_behind P [] i j c low at p = absurd (none_is_not_some c at)
any_behind P (x ∷ cs) zero zero c low at p = (0, x, omega arith, refl, subst P (sym (same_some x c at)) p)
any_behind P (x ∷ cs) zero (suc j) c low at p = let r = any_behind P cs zero j c (omega arith) at p in (suc r.0, r.1, (let h = r.2 in omega (arith, h)), r.3, r.4)
any_behind P (x ∷ cs) (suc i) zero c low at p = absurd (omega (arith, low))
any_behind P (x ∷ cs) (suc i) (suc j) c low at p = any_behind P cs i j c (omega (arith, low)) at p

any_at : (P : Clause → Type 0) (cs : List Clause) → Any P cs → (j : ℕ) × (c : Clause) × (slice_get cs j ≡ Some c) × P c
any_at P [] a = absurd (let h : a.0 < 0 = a.2 in omega (arith, h))
any_at P (x ∷ cs) (zero, y, h, e, p) = (0, x, refl, subst P (sym e) p)
any_at P (x ∷ cs) (suc k, y, h, e, p) = let r = any_at P cs (k, y, omega (arith, h), e, p) in (suc r.0, r.1, r.2, r.3)

-- ---- what is made

record Chained (literals : List Literal) (clauses : List Clause) (places : List ℕ) (last : Literal) : Type 0 where
  same : length literals ≡ length clauses
  made : AreMade literals clauses places (length clauses)
  distinct : All (λ c. has_distinct_variables c ≡ true) clauses
  low : 0 < length clauses
  last_is : slice_get literals (length clauses - 1) ≡ Some last

-- what stands in a place
record Stands (literals : List Literal) (clauses : List Clause) (i : ℕ) (l : Literal) (c : Clause) : Type 0 where
  stands : has_literal c l ≡ true
  others : All (λ m. (m ≡ l) ⊎ IsBefore literals i (negation m)) c
  needed : i + 1 < length literals → IsNeeded clauses i l

stands_at : (literals : List Literal) (clauses : List Clause) (places : List ℕ) (last : Literal) (i : ℕ) (l : Literal) (c : Clause) →
    Chained literals clauses places last → slice_get literals i ≡ Some l → slice_get clauses i ≡ Some c → Stands literals clauses i l c
stands_at literals clauses places last i l c g at clause_at =
    let m = g.made.each i (get_within clauses i c clause_at) in
    let is_l : m.literal ≡ l = same_some m.literal l (sym m.at ∙ at) in
    let is_c : m.clause ≡ c = same_some m.clause c (sym m.clause_at ∙ clause_at) in
    subst (λ x. Stands literals clauses i x c) is_l (subst (λ x. Stands literals clauses i m.literal x) is_c
    (record { stands = m.stands; others = m.others; needed = m.needed }))

one_place : (literals : List Literal) (clauses : List Clause) (places : List ℕ) (last : Literal) (i j : ℕ) (a b : Literal) →
    Chained literals clauses places last → slice_get literals i ≡ Some a → slice_get literals j ≡ Some b → a.variable ≡ b.variable → i ≡ j
one_place literals clauses places last i j a b g at_i at_j same =
    let low_i = get_within literals i a at_i in
    let low_j = get_within literals j b at_j in
    let n = g.same in
    let m = g.made.each i (omega (arith, low_i, n)) in
    let k = g.made.each j (omega (arith, low_j, n)) in
    let is_a : m.literal ≡ a = same_some m.literal a (sym m.at ∙ at_i) in
    let is_b : k.literal ≡ b = same_some k.literal b (sym k.at ∙ at_j) in
    same_some i j (sym m.place ∙ ap (λ (x : Literal). slice_get places x.variable) is_a ∙ ap (slice_get places) same ∙
    sym (ap (λ (x : Literal). slice_get places x.variable) is_b) ∙ k.place)

-- ---- from a place on

record IsRest (literals ls : List Literal) (clauses cs : List Clause) (i : ℕ) : Type 0 where
  lit_at : (x : ℕ) → slice_get ls x ≡ slice_get literals (i + x)
  clause_at : (x : ℕ) → slice_get cs x ≡ slice_get clauses (i + x)
  same : length ls ≡ length cs
  long : i + length cs ≡ length clauses

rest_of : (literals ls : List Literal) (clauses cs : List Clause) (i : ℕ) (l : Literal) (c : Clause) → IsRest literals (l ∷ ls) clauses (c ∷ cs) i →
    IsRest literals ls clauses cs (i + 1)
rest_of literals ls clauses cs i l c r = record {
  lit_at = λ x. r.lit_at (suc x) ∙ ap (slice_get literals) (let e : i + suc x ≡ i + 1 + x = omega arith in e);
  clause_at = λ x. r.clause_at (suc x) ∙ ap (slice_get clauses) (let e : i + suc x ≡ i + 1 + x = omega arith in e);
  same = let s = r.same in omega (arith, s);
  long = let s = r.long in omega (arith, s);
}

-- the literals before a place are true, and no others
record AreTrue (literals : List Literal) (i : ℕ) (trues : List Literal) : Type 0 where
  into : (x : ℕ) (m : Literal) → x < i → slice_get literals x ≡ Some m → Contains trues m
  outof : (m : Literal) → Contains trues m → IsBefore literals i m

true_next : (literals : List Literal) (i : ℕ) (trues : List Literal) (l : Literal) → AreTrue literals i trues → slice_get literals i ≡ Some l →
    AreTrue literals (i + 1) (l ∷ trues)
true_next literals i trues l t at = record {
  into = λ x m low at_x. by x m low at_x (let d : (x < i) ⊎ (x ≡ i) = split x low in d);
  outof = λ m there. elim (contains_cases l trues m there) [
    | inl same ↦ (i, omega arith, at ∙ ap Some same)
    | inr before ↦ let r = t.outof m before in (r.0, (let h = r.1 in omega (arith, h)), r.2)
  ];
}
  where
    split : (x : ℕ) → x < i + 1 → (x < i) ⊎ (x ≡ i)
    split x low = elim (cases_lt x i) [ inl before ↦ inl before | inr past ↦ inr (omega (arith, low, past)) ]

    by : (x : ℕ) (m : Literal) → x < i + 1 → slice_get literals x ≡ Some m → (x < i) ⊎ (x ≡ i) → Contains (l ∷ trues) m
    by x m low at_x (inl before) = cons_contains l trues m (t.into x m before at_x)
    by x m low at_x (inr here) = subst (Contains (l ∷ trues)) (same_some l m (sym at ∙ ap (slice_get literals) (sym here) ∙ at_x)) (contains_first l trues)

before_denied : (literals : List Literal) (i : ℕ) (trues : List Literal) (lemma : Clause) (m : Literal) → AreTrue literals i trues →
    IsBefore literals i (negation m) → IsDenied lemma trues m
before_denied literals i trues lemma m t b =
    has-from_Contains (trues ++ start_of lemma) (negation m)
    (Contains-append_left trues (start_of lemma) (negation m) (t.into b.0 (negation m) b.1 b.2))

own_denied : (trues : List Literal) (l : Literal) → IsDenied (l ∷ []) trues l
own_denied trues l =
    has-from_Contains (trues ++ start_of (l ∷ [])) (negation l)
    (Contains-append_right trues (start_of (l ∷ [])) (negation l) (contains_first (negation l) []))

-- no literal of the variable is true yet
not_yet : (literals : List Literal) (clauses : List Clause) (places : List ℕ) (last : Literal) (i : ℕ) (trues : List Literal) (l x : Literal) →
    Chained literals clauses places last → AreTrue literals i trues → slice_get literals i ≡ Some l → i + 1 < length clauses → x.variable ≡ l.variable →
    has_literal (trues ++ start_of (last ∷ [])) x ≡ false
not_yet literals clauses places last i trues l x g t at low of_l =
    has_none (trues ++ start_of (last ∷ [])) x (λ m there same. elim (Contains-append_cases trues (start_of (last ∷ [])) m there) [
      | inl before ↦
          let b = t.outof m before in
          let h = b.1 in
          let one : b.0 ≡ i = one_place literals clauses places last b.0 i m l g b.2 at (same ∙ of_l) in
          omega (arith, one, h)
      | inr start ↦ elim (contains_cases (negation last) [] m start) [
        | inl is ↦
            let one : length clauses - 1 ≡ i =
            one_place literals clauses places last (length clauses - 1) i last l g g.last_is at (ap (λ (y : Literal). y.variable) is ∙ same ∙ of_l) in
            omega (arith, one, low)
        | inr none ↦ absurd (nothing_in m none)
      ]
    ])

chain_from : (literals : List Literal) (clauses : List Clause) (places : List ℕ) (last : Literal) (i : ℕ) (ls : List Literal) (cs : List Clause)
    (trues : List Literal) → Chained literals clauses places last → IsRest literals ls clauses cs i → AreTrue literals i trues → 0 < length cs →
    IsChain (last ∷ []) trues (links_of ls cs) (last_of cs)
chain_from literals clauses places last i [] [] trues g r t some = absurd (omega (arith, some))
chain_from literals clauses places last i [] (c ∷ cs) trues g r t some = let s = r.same in absurd (omega (arith, s))
chain_from literals clauses places last i (l ∷ ls) [] trues g r t some = let s = r.same in absurd (omega (arith, s))
chain_from literals clauses places last i (l ∷ ls) (c ∷ []) trues g r t some =
    let at : slice_get literals i ≡ Some l = ap (slice_get literals) (let z : i ≡ i + 0 = omega arith in z) ∙ sym (r.lit_at 0) in
    let clause_at : slice_get clauses i ≡ Some c = ap (slice_get clauses) (let z : i ≡ i + 0 = omega arith in z) ∙ sym (r.clause_at 0) in
    let long = r.long in
    let is_last : last ≡ l = same_some last l (sym g.last_is ∙ ap (slice_get literals) (let z : length clauses - 1 ≡ i = omega (arith, long) in z) ∙ at) in
    let s = stands_at literals clauses places last i l c g at clause_at in
    recursion_from_All (IsDenied (last ∷ []) trues) c
    (all_from (IsDenied (last ∷ []) trues) c (λ m in_c.
    elim (All-contains (λ x. (x ≡ l) ⊎ IsBefore literals i (negation x)) c m s.others in_c) [
      | inl same ↦ subst (IsDenied (last ∷ []) trues) (is_last ∙ sym same) (own_denied trues last)
      | inr before ↦ before_denied literals i trues (last ∷ []) m t before
    ]))
chain_from literals clauses places last i (l ∷ ls) (c ∷ d ∷ cs) trues g r t some =
    let at : slice_get literals i ≡ Some l = ap (slice_get literals) (let z : i ≡ i + 0 = omega arith in z) ∙ sym (r.lit_at 0) in
    let clause_at : slice_get clauses i ≡ Some c = ap (slice_get clauses) (let z : i ≡ i + 0 = omega arith in z) ∙ sym (r.clause_at 0) in
    let long = r.long in
    let low : i + 1 < length clauses = omega (arith, long) in
    let s = stands_at literals clauses places last i l c g at clause_at in (
      s.stands,
      All-contains (λ x. has_distinct_variables x ≡ true) clauses c g.distinct (Contains_from_get clauses i c clause_at),
      not_yet literals clauses places last i trues l l g t at low refl,
      not_yet literals clauses places last i trues l (negation l) g t at low refl,
      recursion_from_All (λ m. (m ≡ l) ⊎ IsDenied (last ∷ []) trues m) c
          (all_from (λ m. (m ≡ l) ⊎ IsDenied (last ∷ []) trues m) c (λ m in_c.
          elim (All-contains (λ x. (x ≡ l) ⊎ IsBefore literals i (negation x)) c m s.others in_c) as (λ _. (m ≡ l) ⊎ IsDenied (last ∷ []) trues m) [
            | inl same ↦ inl same
            | inr before ↦ inr (before_denied literals i trues (last ∷ []) m t before)
          ])),
      chain_from literals clauses places last (i + 1) ls (d ∷ cs) (l ∷ trues) g (rest_of literals ls clauses (d ∷ cs) i l c r)
          (true_next literals i trues l t at) (omega arith),
    )

-- ---- the lemma

pub proved : (literals : List Literal) (clauses : List Clause) (places : List ℕ) (last : Literal) → length literals ≡ length clauses →
    All (λ c. has_distinct_variables c ≡ true) clauses → AreMade literals clauses places (length clauses) → 0 < length clauses →
    slice_get literals (length clauses - 1) ≡ Some last → IsProvedBy clauses (last ∷ [])
proved literals clauses places last same distinct made low last_is = record {
  unit = subst (λ cs. IsTrue (hints_are_unit (last ∷ []) cs)) hints right.0;
  last = subst (λ cs. IsTrue (last_is_false (last ∷ []) cs)) hints right.1;
  resolvent = subst (IsResolventOf (last ∷ [])) hints resolvent;
}
  where
    g : Chained literals clauses places last
    g = record { same = same; made = made; distinct = distinct; low = low; last_is = last_is }

    links : List Link
    links = links_of literals clauses

    hints : hints_of links (last_of clauses) ≡ clauses
    hints = hints_are literals clauses same low

    chain : IsChain (last ∷ []) [] links (last_of clauses)
    chain = chain_from literals clauses places last 0 literals clauses [] g
        (record {
          lit_at = λ x. ap (slice_get literals) (let e : x ≡ 0 + x = omega arith in e);
          clause_at = λ x. ap (slice_get clauses) (let e : x ≡ 0 + x = omega arith in e);
          same = same;
          long = omega arith;
        })
        (record { into = λ x m none at. absurd (omega (arith, none)); outof = λ m none. absurd (nothing_in m none) }) low

    right : IsTrue (hints_are_unit (last ∷ []) (hints_of links (last_of clauses))) × IsTrue (last_is_false (last ∷ []) (hints_of links (last_of clauses))) ×
        (implied_by (start_of (last ∷ [])) (hints_of links (last_of clauses)) ≡ map (λ (k : Link). k.literal) links)
    right = chains_are_right (last ∷ []) links (last_of clauses) chain

    -- a literal of a clause is the last one, or of a variable that a link makes true
    left_alone : (l : Literal) (j : ℕ) (c : Clause) → slice_get clauses j ≡ Some c → Contains c l →
        All (λ m. m.variable ≢ l.variable) (map (λ (k : Link). k.literal) links) → Contains (last ∷ []) l
    left_alone l j c at there apart =
        let m = made.each j (get_within clauses j c at) in
        let s = stands_at literals clauses places last j m.literal c g m.at at in
        let within = get_within clauses j c at in
        elim (All-contains (λ x. (x ≡ m.literal) ⊎ IsBefore literals j (negation x)) c l s.others there) [
          | inl own ↦ elim (cases_lt (j + 1) (length literals)) [
            | inl link ↦ absurd (All-contains (λ x. x.variable ≢ l.variable) (map (λ (k : Link). k.literal) links) m.literal apart
                (Contains_from_get (map (λ (k : Link). k.literal) links) j m.literal (at_implied literals clauses j m.literal same m.at link))
                (ap (λ (x : Literal). x.variable) (sym own)))
            | inr end ↦
                let z : length clauses - 1 ≡ j = omega (arith, within, end, same) in
                let is : last ≡ l = same_some last l (sym last_is ∙ ap (slice_get literals) z ∙ m.at ∙ ap Some (sym own)) in
                subst (Contains (last ∷ [])) is (contains_first last [])
          ]
          | inr before ↦
              let low_b = before.1 in
              let link : before.0 + 1 < length literals = omega (arith, within, low_b, same) in
              absurd (All-contains (λ x. x.variable ≢ l.variable) (map (λ (k : Link). k.literal) links) (negation l) apart
              (Contains_from_get (map (λ (k : Link). k.literal) links) before.0 (negation l) (at_implied literals clauses before.0 (negation l) same before.2 link)) refl)
        ]

    last_stands : (l : Literal) → Contains (last ∷ []) l → last ≡ l
    last_stands l there = elim (contains_cases last [] l there) [ inl is ↦ is | inr none ↦ absurd (nothing_in l none) ]

    resolvent : IsResolventOf (last ∷ []) (hints_of links (last_of clauses))
    resolvent = record {
      used = λ k l e.
          let i = implied_at literals clauses k l same (subst (λ xs. slice_get xs k ≡ Some l) right.2 e) in
          let h = i.1 in
          let m = made.each k (omega (arith, h, same)) in
          let n = m.needed i.1 in
          let is : m.literal ≡ l = same_some m.literal l (sym m.at ∙ i.0) in
          let behind = n.behind in
          any_behind (λ c. Contains c (negation l)) (hints_of links (last_of clauses)) (k + 1) n.later n.clause (omega (arith, behind))
          (subst (λ cs. slice_get cs n.later ≡ Some n.clause) (sym hints) n.at)
          (subst (λ x. Contains n.clause (negation x)) is (Contains-from_has n.clause (negation m.literal) n.denies));
      literals = λ l. (
        (λ there. (
          (
              let m = made.each (length clauses - 1) (omega (arith, low)) in
              let is : m.literal ≡ l = same_some m.literal last (sym m.at ∙ last_is) ∙ last_stands l there in
              any_behind (λ c. Contains c l) (hints_of links (last_of clauses)) 0 (length clauses - 1) m.clause (omega arith)
              (subst (λ cs. slice_get cs (length clauses - 1) ≡ Some m.clause) (sym hints) m.clause_at)
              (subst (Contains m.clause) is (Contains-from_has m.clause m.literal m.stands))),
          subst (λ xs. All (λ m. m.variable ≢ l.variable) xs) (sym right.2)
              (all_from (λ m. m.variable ≢ l.variable) (map (λ (k : Link). k.literal) links) (λ m in_links of_l.
              let (k, at) = get_from_Contains (map (λ (k : Link). k.literal) links) m in_links in
              let i = implied_at literals clauses k m same at in
              let h = i.1 in
              let one : k ≡ length clauses - 1 =
              one_place literals clauses places last k (length clauses - 1) m last g i.0 last_is
              (of_l ∙ sym (ap (λ (x : Literal). x.variable) (last_stands l there))) in
              omega (arith, one, h, same))),
        )),
        (λ stays.
            let (j, c, at, in_c) = any_at (λ x. Contains x l) (hints_of links (last_of clauses)) stays.0 in
            left_alone l j c (subst (λ cs. slice_get cs j ≡ Some c) hints at) in_c
            (subst (λ xs. All (λ m. m.variable ≢ l.variable) xs) right.2 stays.1)),
      );
    }
