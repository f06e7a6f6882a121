-- Conflict analysis by marks.
use Rattle.std.proofs.Common.{◌≡◌, ◌≢◌, ◌↔◌, ℕ, suc, ◌+◌, ◌-◌, ◌<◌, ◌≤◌, arith, Bool, true, false, not, ◌&&◌, cond, List, [], ◌∷◌, ◌++◌, length, take}
use Rattle.std.proofs.Common.{drop, set, get_or, refl, sym, ap, subst, ◌∙◌, inl, inr, ◌⊎◌, Some}
use Rattle.std.specs.Prelude.{All, Contains, slice_get}
use Rattle.std.proofs.lemmas.Bool.{cases_Bool, cases_eq, cases_lt, false≢true}
use Rattle.std.proofs.lemmas.List.{get_or-set_same, get_or-set_other, length-set}
use Rattle.std.proofs.lemmas.List.Elements.{All-contains, All-nil, All-cons, Contains-append_cases, Contains-append_left, Contains-append_right}
use Rattle.bs_clause.specs.Literal.{Literal, Clause, negation, has_literal}
use Rattle.bs_clause.specs.Resolvent.{resolvent}
use Rattle.bs_clause.specs.Range.{IsWithin, HasVariables}
use Rattle.bs_log.specs.Refusal.{has_distinct_variables}
use Rattle.bs_arena.specs.Arena.{Held}
use Rattle.bs_watch.specs.Places.{Place, literals_of, AreApart}
use Rattle.bs_watch.specs.Trail.{IsFalseOn, IsConflict, Implies}
use Rattle.bs_solve_lemmas.specs.Chain.{Link, IsDenied}
use Rattle.bs_solve_lemmas.specs.AnalysisWalk.{IsLearnt, IsWalk}
use Rattle.bs_solve_lemmas.specs.Marks.{MarkState, is_marked, marks_in, added, marked_with, unmarked, IsClear, AreWithin, AreTouched, HasMarked, HasTraded}
use Rattle.bs_solve_lemmas.specs.Marks.{HasMoved}
use Rattle.bs_watch.proofs.Gets.{get_take, take_get, take_push_at, Contains_from_get, get_map}
use Rattle.bs_solve_lemmas.proofs.Literals.{Contains-from_has, absent}
use Rattle.bs_solve_lemmas.proofs.Walkable.{IsClauseAt, IsWalkable}
use Rattle.bs_solve_lemmas.proofs.Clauses.{nothing_in, cons_contains, contains_first, contains_cases, all_from, resolvent_cases, resolvent_reason}
use Rattle.bs_solve_lemmas.proofs.Clauses.{resolvent_left, distinct_cons}
use Rattle.bs_watch.proofs.Literals.{negation-negation}
use Rattle.bs_solve_lemmas.proofs.Counts.{get_drop, count_same, count_none, count_one}
use Rattle.bs_solve_lemmas.proofs.Fronts.{true_at_end, place_of}
use Rattle.bs_solve_lemmas.proofs.Walks.{false_same, walk_start, walk_past, walk_step, walk_end}

-- ---- the marks of a clause

pub none_marked : (s : MarkState) → HasMarked s s []
none_marked s = record {
  length_is = refl;
  kept = λ v h. h;
  stands = All-nil (λ l. is_marked s l ≡ true);
  only = λ v h. inl h;
  touched = λ l h. h;
  touched_only = λ l h. inl h;
}

pub one_marked : (s : MarkState) (m : Literal) → m.variable < length s.flags → HasMarked s (marked_with s m) (m ∷ [])
one_marked s m within = by (is_marked s m) refl
  where
    same_set : (v : ℕ) → v ≡ m.variable → get_or (set s.flags m.variable true) v false ≡ true
    same_set v e = ap (λ n. get_or (set s.flags m.variable true) n false) e ∙ get_or-set_same s.flags m.variable true false within

    by : (b : Bool) → is_marked s m ≡ b → HasMarked s (cond b s (added s m)) (m ∷ [])
    by true is = record {
      length_is = refl;
      kept = λ v h. h;
      stands = All-cons (λ l. is_marked s l ≡ true) m [] is (All-nil (λ l. is_marked s l ≡ true));
      only = λ v h. inl h;
      touched = λ l h. h;
      touched_only = λ l h. inl h;
    }
    by false is = record {
      length_is = length-set s.flags m.variable true;
      kept = λ v h. elim (cases_eq v m.variable) [
        | inl same ↦ same_set v same
        | inr other ↦ get_or-set_other s.flags m.variable v true false other ∙ h
      ];
      stands = All-cons (λ l. is_marked (added s m) l ≡ true) m [] (same_set m.variable refl) (All-nil (λ l. is_marked (added s m) l ≡ true));
      only = λ v h. elim (cases_eq v m.variable) as
          (λ _. (get_or s.flags v false ≡ true) ⊎ ((l : Literal) × Contains (m ∷ []) l × Contains (s.touched ++ m ∷ []) l × (l.variable ≡ v))) [
            | inl same ↦ inr (m, contains_first m [], Contains-append_right s.touched (m ∷ []) m (contains_first m []), sym same)
            | inr other ↦ inl (sym (get_or-set_other s.flags m.variable v true false other) ∙ h)
          ];
      touched = λ l h. Contains-append_left s.touched (m ∷ []) l h;
      touched_only = λ l h. elim (Contains-append_cases s.touched (m ∷ []) l h) [
        | inl old ↦ inl old
        | inr new ↦ elim (contains_cases m [] l new) [
          | inl same ↦ inr (new, ap (is_marked s) (sym same) ∙ is)
          | inr nothing ↦ absurd (nothing_in l nothing)
        ]
      ];
    }

pub more_marked : (a b d : MarkState) (c : Clause) (m : Literal) → HasMarked a b c → HasMarked b d (m ∷ []) → HasMarked a d (c ++ m ∷ [])
more_marked a b d c m h g = record {
  length_is = g.length_is ∙ h.length_is;
  kept = λ v t. g.kept v (h.kept v t);
  stands = all_from (λ l. is_marked d l ≡ true) (c ++ m ∷ []) (λ l in_all. elim (Contains-append_cases c (m ∷ []) l in_all) [
    | inl old ↦ g.kept l.variable (All-contains (λ x. is_marked b x ≡ true) c l h.stands old)
    | inr new ↦ All-contains (λ x. is_marked d x ≡ true) (m ∷ []) l g.stands new
  ]);
  only = λ v t. elim (g.only v t) [
    | inl before ↦ elim (h.only v before) [
      | inl first ↦ inl first
      | inr old ↦ inr (old.0, Contains-append_left c (m ∷ []) old.0 old.1, g.touched old.0 old.2, old.3)
    ]
    | inr new ↦ inr (new.0, Contains-append_right c (m ∷ []) new.0 new.1, new.2, new.3)
  ];
  touched = λ l t. g.touched l (h.touched l t);
  touched_only = λ l t. elim (g.touched_only l t) [
    | inl before ↦ elim (h.touched_only l before) [
      | inl first ↦ inl first
      | inr old ↦ inr (Contains-append_left c (m ∷ []) l old.0, old.1)
    ]
    | inr new ↦ inr (
      Contains-append_right c (m ∷ []) l new.0,
      elim (cases_Bool (is_marked a l)) [
        | inr is_clear ↦ is_clear
        | inl is_set ↦ absurd (false≢true (sym new.1 ∙ h.kept l.variable is_set))
      ],
    )
  ];
}

-- ---- how many places are marked

-- a false literal's place from a place on
record Behind (places : List Place) (start : ℕ) (m : Literal) : Type 0 where
  at : ℕ
  place : Place
  low : start ≤ at
  there : slice_get places at ≡ Some place
  is : place.literal ≡ negation m

behind : (places : List Place) (start : ℕ) (m : Literal) → IsFalseOn (literals_of places) m →
    has_literal (literals_of (take start places)) (negation m) ≡ false → Behind places start m
behind places start m f absent_yet =
    let (k, p, at, is) = place_of (λ (x : Place). x.literal) places (negation m) f in
    elim (cases_lt k start) [
      | inr past ↦ record { at = k; place = p; low = past; there = at; is = is }
      | inl before ↦ absurd (absent (literals_of (take start places)) (negation m) absent_yet
          (Contains_from_get (literals_of (take start places)) k (negation m)
          (get_map (λ (x : Place). x.literal) (take start places) k p (take_get start places k p before at) ∙ ap Some is)))
    ]

pub at_drop : (places : List Place) (start k : ℕ) (p : Place) → start ≤ k → slice_get places k ≡ Some p → slice_get (drop start places) (k - start) ≡ Some p
at_drop places start k p low at = get_drop start places (k - start) ∙ ap (slice_get places) (let e : start + (k - start) ≡ k = omega (arith, low) in e) ∙ at

-- a flag of one place's variable
flag_counts : (f g : MarkState) (places : List Place) (start k : ℕ) (p : Place) (m : Literal) → AreApart places → start ≤ k →
    slice_get places k ≡ Some p → p.literal.variable ≡ m.variable →
    is_marked f m ≡ false → is_marked g m ≡ true → ((l : Literal) → l.variable ≢ m.variable → is_marked f l ≡ is_marked g l) →
    marks_in g (drop start places) ≡ suc (marks_in f (drop start places))
flag_counts f g places start k p m apart low at is is_clear is_set others =
    count_one (λ (x : Place). is_marked f x.literal) (λ (x : Place). is_marked g x.literal) (drop start places) (k - start) p (at_drop places start k p low at)
    (ap (λ v. get_or f.flags v false) is ∙ is_clear) (ap (λ v. get_or g.flags v false) is ∙ is_set)
    (λ j q there other. others q.literal (λ same.
    let there_is : slice_get places (start + j) ≡ Some q = sym (get_drop start places j) ∙ there in
    let one : k ≡ start + j = apart.apart k (start + j) p q at there_is (is ∙ sym same) in
    other (let e : j ≡ k - start = omega (arith, one, low) in e)))

pub count_marked : (s : MarkState) (m : Literal) (places : List Place) (start : ℕ) → AreApart places → m.variable < length s.flags →
    (is_marked s m ≡ true) ⊎ IsFalseOn (literals_of places) m →
    marks_in (marked_with s m) (drop start places) ≡
    cond (not (is_marked s m) && not (has_literal (literals_of (take start places)) (negation m))) 1 0 + marks_in s (drop start places)
count_marked s m places start apart within known = by (is_marked s m) refl
  where
    others : (l : Literal) → l.variable ≢ m.variable → is_marked s l ≡ is_marked (added s m) l
    others l other = sym (get_or-set_other s.flags m.variable l.variable true false other)

    before : has_literal (literals_of (take start places)) (negation m) ≡ true → marks_in (added s m) (drop start places) ≡ marks_in s (drop start places)
    before has =
        let (k, p, at, is) = place_of (λ (x : Place). x.literal) (take start places) (negation m) (Contains-from_has (literals_of (take start places)) (negation m) has) in
        let early = get_take start places k p at in
        sym (count_same (λ (x : Place). is_marked s x.literal) (λ (x : Place). is_marked (added s m) x.literal) (drop start places)
        (λ j q there. others q.literal (λ same.
        let there_is : slice_get places (start + j) ≡ Some q = sym (get_drop start places j) ∙ there in
        let one : k ≡ start + j = apart.apart k (start + j) p q early.1 there_is (ap (λ (x : Literal). x.variable) is ∙ sym same) in
        let low = early.0 in
        omega (arith, one, low))))

    by : (b : Bool) → is_marked s m ≡ b →
        marks_in (cond b s (added s m)) (drop start places) ≡ cond
        (not b && not (has_literal (literals_of (take start places)) (negation m))) 1 0 + marks_in s (drop start places)
    by true is = (let e : marks_in s (drop start places) ≡ 0 + marks_in s (drop start places) = omega arith in e)
    by false is = elim (known) [
      | inl is_set ↦ absurd (false≢true (sym is ∙ is_set))
      | inr f ↦ elim (cases_Bool (has_literal (literals_of (take start places)) (negation m))) [
        | inl has ↦ before has ∙ (let e : marks_in s (drop start places) ≡ 0 + marks_in s (drop start places) = omega arith in e) ∙
            sym (ap (λ b. cond (not b) 1 0 + marks_in s (drop start places)) has)
        | inr nothing ↦
            let b = behind places start m f nothing in
            flag_counts s (added s m) places start b.at b.place m apart b.low b.there (ap (λ (x : Literal). x.variable) b.is) is
            (get_or-set_same s.flags m.variable true false within) others ∙
            (let e : suc (marks_in s (drop start places)) ≡ 1 + marks_in s (drop start places) = omega arith in e) ∙
            sym (ap (λ b. cond (not b) 1 0 + marks_in s (drop start places)) nothing)
      ]
    ]

pub count_unmarked : (s : MarkState) (pivot : Literal) (places : List Place) (start : ℕ) → AreApart places → pivot.variable < length s.flags →
    is_marked s pivot ≡ true →
    Contains (literals_of (drop start places)) pivot → marks_in s (drop start places) ≡ suc (marks_in (unmarked s pivot) (drop start places))
count_unmarked s pivot places start apart within is_set there =
    let (k, p, at, is) = place_of (λ (x : Place). x.literal) (drop start places) pivot there in
    flag_counts (unmarked s pivot) s places start (start + k) p pivot apart (omega arith) (sym (get_drop start places k) ∙ at)
    (ap (λ (x : Literal). x.variable) is)
    (get_or-set_same s.flags pivot.variable false false within) is_set (λ l other. get_or-set_other s.flags pivot.variable l.variable false false other)

-- no mark is counted at first
pub count_first_marks : (count ahead : ℕ) (s now : MarkState) (places : List Place) → IsClear count s →
    marks_in now places ≡ ahead + marks_in s places → marks_in now places ≡ ahead
count_first_marks count ahead s now places clear e =
    let zero_marks : marks_in s places ≡ 0 = count_none (λ (p : Place). is_marked s p.literal) places (λ p. clear.none p.literal.variable) in
    omega (arith, e, zero_marks)

pub count_step : (first now : MarkState) (c : Clause) (i : ℕ) (m : Literal) (places : List Place) (start ahead : ℕ) → slice_get c i ≡ Some m → AreApart places →
    AreWithin first c → All (λ x. (is_marked first x ≡ true) ⊎ IsFalseOn (literals_of places) x) c →
    HasMarked first now (take i c) → marks_in now (drop start places) ≡ ahead + marks_in first (drop start places) →
    HasMarked first (marked_with now m) (take (suc i) c) ×
    (marks_in (marked_with now m) (drop start places) ≡
    cond (not (is_marked now m) && not (has_literal (literals_of (take start places)) (negation m))) 1 0 + (ahead + marks_in first (drop start places)))
count_step first now c i m places start ahead at apart range known marked count =
    let in_c : Contains c m = Contains_from_get c i m at in
    let within : m.variable < length now.flags =
    (let w : m.variable < length first.flags = All-contains (λ l. l.variable < length first.flags) c m range in_c in omega (arith, w, marked.length_is)) in
    let known_now : (is_marked now m ≡ true) ⊎ IsFalseOn (literals_of places) m =
    elim (All-contains (λ x. (is_marked first x ≡ true) ⊎ IsFalseOn (literals_of places) x) c m known in_c)
    [ inl old ↦ inl (marked.kept m.variable old) | inr f ↦ inr f ] in (
      subst (HasMarked first (marked_with now m)) (sym (take_push_at c i m at))
          (more_marked first now (marked_with now m) (take i c) m marked (one_marked now m within)),
      count_marked now m places start apart within known_now ∙
          ap (λ n. cond (not (is_marked now m) && not (has_literal (literals_of (take start places)) (negation m))) 1 0 + n) count,
    )

-- ---- the walk over marks

pub record MarkWalk (clauses : List Held) (places : List Place) (down : ℕ) (s : MarkState) (hints : List ℕ) : Type 0 where
  pub left : Clause
  pub walk : IsWalk clauses places down left hints
  pub marked : All (λ l. is_marked s l ≡ true) left
  pub known : (v : ℕ) → get_or s.flags v false ≡ true → (l : Literal) × Contains left l × (l.variable ≡ v)
  pub touched : (l : Literal) → Contains left l → Contains s.touched l
  pub only : All (IsFalseOn (literals_of places)) s.touched
  pub range : All (λ l. l.variable < length s.flags) s.touched

-- a marked false literal is left
pub marked_is_left : (clauses : List Held) (places : List Place) (down : ℕ) (s : MarkState) (hints : List ℕ) (l : Literal) →
    IsWalkable clauses places → (w : MarkWalk clauses places down s hints) → IsFalseOn (literals_of places) l → is_marked s l ≡ true → Contains w.left l
marked_is_left clauses places down s hints l sound w f t =
    let (m, in_left, same) = w.known l.variable t in
    subst (Contains w.left) (false_same clauses places sound m l
    (All-contains (IsFalseOn (literals_of places)) w.left m w.walk.false_now in_left) f same) in_left

-- a place's literal is denied where its variable is marked
pub denied_at : (clauses : List Held) (places : List Place) (down : ℕ) (s : MarkState) (hints : List ℕ) (k : ℕ) (p : Place) →
    IsWalkable clauses places → (w : MarkWalk clauses places down s hints) → slice_get places k ≡ Some p → is_marked s p.literal ≡ true →
    Contains w.left (negation p.literal)
denied_at clauses places down s hints k p sound w at t =
    marked_is_left clauses places down s hints (negation p.literal) sound w
    (subst (Contains (literals_of places)) (sym (negation-negation p.literal))
    (Contains_from_get (literals_of places) k p.literal (get_map (λ (x : Place). x.literal) places k p at))) t

pub mark_start : (clauses : List Held) (places : List Place) (at : ℕ) (c : Clause) (vars : ℕ) (s0 s : MarkState) → IsWalkable clauses places →
    IsClauseAt clauses at c → has_distinct_variables c ≡ true → IsConflict (literals_of places) c → HasVariables vars c → IsClear (vars + 1) s0 →
    HasMarked s0 s c →
    (w : MarkWalk clauses places (length places) s (at ∷ [])) × (w.left ≡ c)
mark_start clauses places at c vars s0 s sound there distinct conflict range clear marked = (
  record {
    left = c;
    walk = walk_start clauses places at c there distinct conflict;
    marked = marked.stands;
    known = λ v t. elim (marked.only v t) [
      | inl old ↦ absurd (false≢true (sym (clear.none v) ∙ old))
      | inr new ↦ (new.0, new.1, new.3)
    ];
    touched = λ l in_c. elim (marked.only l.variable (All-contains (λ x. is_marked s x ≡ true) c l marked.stands in_c)) [
      | inl old ↦ absurd (false≢true (sym (clear.none l.variable) ∙ old))
      | inr new ↦ subst (Contains s.touched)
          (false_same clauses places sound new.0 l (All-contains (IsFalseOn (literals_of places)) c new.0 conflict new.1)
          (All-contains (IsFalseOn (literals_of places)) c l conflict in_c) new.3) new.2
    ];
    only = all_from (IsFalseOn (literals_of places)) s.touched (λ l t. All-contains (IsFalseOn (literals_of places)) c l conflict (in_clause l t));
    range = all_from (λ l. l.variable < length s.flags) s.touched (λ l t.
        let within = (All-contains (IsWithin vars) c l range (in_clause l t)).1 in
        omega (arith, within, marked.length_is, clear.length_is));
  },
  refl,
)
  where
    in_clause : (l : Literal) → Contains s.touched l → Contains c l
    in_clause l t = elim (marked.touched_only l t) [
      | inl old ↦ absurd (nothing_in l (subst (λ xs. Contains xs l) clear.touched old))
      | inr new ↦ new.0
    ]

pub mark_past : (clauses : List Held) (places : List Place) (i : ℕ) (s : MarkState) (hints : List ℕ) → (w : MarkWalk clauses places (suc i) s hints) →
    (v : MarkWalk clauses places i s hints) × (v.left ≡ w.left)
mark_past clauses places i s hints w = (
  record {
    left = w.left;
    walk = walk_past clauses places i w.left hints w.walk;
    marked = w.marked;
    known = w.known;
    touched = w.touched;
    only = w.only;
    range = w.range;
  },
  refl,
)

pub mark_step : (clauses : List Held) (places : List Place) (i : ℕ) (s now : MarkState) (hints : List ℕ) (p : Place) (r : ℕ) (c : Clause) (vars : ℕ) →
    IsWalkable clauses places → (w : MarkWalk clauses places (suc i) s hints) → slice_get places i ≡ Some p → p.reason ≡ Some r → IsClauseAt clauses r c →
    has_distinct_variables c ≡ true → HasVariables vars c → length s.flags ≡ vars + 1 → is_marked s p.literal ≡ true → HasTraded s now c p.literal →
    (v : MarkWalk clauses places i now (hints ++ r ∷ [])) × (v.left ≡ resolvent c w.left p.literal)
mark_step clauses places i s now hints p r c vars sound w at is there distinct range flags is_set traded =
    subst (λ n. (v : MarkWalk clauses places i n (hints ++ r ∷ [])) × (v.left ≡ next)) (sym traded.pivot_gone) (
      record {
        left = next;
        walk = stepped;
        marked = all_from (λ l. is_marked (unmarked middle pivot) l ≡ true) next (λ l in_next.
            get_or-set_other middle.flags pivot.variable l.variable false false (apart l in_next) ∙ (elim (resolvent_cases c w.left pivot l in_next) [
              | inl new ↦ All-contains (λ x. is_marked middle x ≡ true) c l marked.stands new.0
              | inr old ↦ marked.kept l.variable (All-contains (λ x. is_marked s x ≡ true) w.left l w.marked old.0)
            ]));
        known = λ v t. elim (cases_eq v pivot.variable) as (λ _. (l : Literal) × Contains next l × (l.variable ≡ v)) [
          | inl same ↦ absurd (false≢true
              (sym (ap (λ n. get_or (set middle.flags pivot.variable false) n false) same ∙
              get_or-set_same middle.flags pivot.variable false false pivot_within) ∙ t))
          | inr other ↦ elim (marked.only v (sym (get_or-set_other middle.flags pivot.variable v false false other) ∙ t)) [
            | inl old ↦
                let (l, in_left, same) = w.known v old in
                (l, resolvent_left c w.left pivot l in_left (λ e. other (sym same ∙ ap (λ (x : Literal). x.variable) e)), same)
            | inr new ↦ (new.0, resolvent_reason c w.left pivot new.0 new.1 (λ e. other (sym new.3 ∙ ap (λ (x : Literal). x.variable) e)), new.3)
          ]
        ];
        touched = λ l in_next. elim (resolvent_cases c w.left pivot l in_next) [
          | inr old ↦ marked.touched l (w.touched l old.0)
          | inl new ↦
              let false_l : IsFalseOn (literals_of places) l = reason_false l new.0 new.1 in
              elim (marked.only l.variable (All-contains (λ x. is_marked middle x ≡ true) c l marked.stands new.0)) [
                | inl before ↦ marked.touched l (w.touched l (marked_is_left clauses places (suc i) s hints l sound w false_l before))
                | inr fresh ↦
                    let other : fresh.0 ≢ pivot = λ e. apart l in_next (sym fresh.3 ∙ ap (λ (x : Literal). x.variable) e) in
                    subst (Contains middle.touched) (false_same clauses places sound fresh.0 l (reason_false fresh.0 fresh.1 other) false_l fresh.3) fresh.2
              ]
        ];
        only = all_from (IsFalseOn (literals_of places)) middle.touched (λ l t. elim (marked.touched_only l t) [
          | inl old ↦ All-contains (IsFalseOn (literals_of places)) s.touched l w.only old
          | inr new ↦ reason_false l new.0 (λ e. false≢true (sym new.1 ∙ ap (is_marked s) e ∙ is_set))
        ]);
        range = all_from (λ l. l.variable < length (set middle.flags pivot.variable false)) middle.touched (λ l t. elim (marked.touched_only l t) [
          | inl old ↦
              let within : l.variable < length s.flags = All-contains (λ x. x.variable < length s.flags) s.touched l w.range old in
              omega (arith, within, marked.length_is, length-set middle.flags pivot.variable false)
          | inr new ↦
              let within = (All-contains (IsWithin vars) c l range new.0).1 in
              omega (arith, within, flags, marked.length_is, length-set middle.flags pivot.variable false)
        ]);
      },
      refl,
    )
  where
    pivot : Literal
    pivot = p.literal

    middle : MarkState
    middle = traded.middle

    marked : HasMarked s middle c
    marked = traded.marked

    next : Clause
    next = resolvent c w.left p.literal

    denied : Contains w.left (negation p.literal)
    denied = denied_at clauses places (suc i) s hints i p sound w at is_set

    stepped : IsWalk clauses places i (resolvent c w.left p.literal) (hints ++ r ∷ [])
    stepped = walk_step clauses places i w.left hints p r c sound w.walk at is there distinct denied

    implies : Implies (literals_of (take i places)) c p.literal
    implies =
        let f = (sound.placed i p at).implied r is in
        subst (λ x. Implies (literals_of (take i places)) x p.literal) (sym f.1.is ∙ there.is) f.2

    pivot_within : pivot.variable < length middle.flags
    pivot_within =
        let within = (All-contains (IsWithin vars) c pivot range implies.stands).1 in
        omega (arith, within, flags, marked.length_is)

    reason_false : (l : Literal) → Contains c l → l ≢ p.literal → IsFalseOn (literals_of places) l
    reason_false l in_c other = elim (All-contains (λ x. (x ≡ p.literal) ⊎ IsFalseOn (literals_of (take i places)) x) c l implies.others in_c) [
      | inl same ↦ absurd (other same)
      | inr f ↦ true_at_end (λ (x : Place). x.literal) places i (negation l) f
    ]

    apart : (l : Literal) → Contains next l → l.variable ≢ pivot.variable
    apart l in_next same =
        let pivot_false : IsFalseOn (literals_of places) (negation p.literal) =
        subst (Contains (literals_of places)) (sym (negation-negation p.literal))
        (Contains_from_get (literals_of places) i p.literal (get_map (λ (x : Place). x.literal) places i p at)) in
        let l_false : IsFalseOn (literals_of places) l = All-contains (IsFalseOn (literals_of places)) next l stepped.false_now in_next in
        let is_l : l ≡ negation p.literal = false_same clauses places sound l (negation p.literal) l_false pivot_false same in
        elim (resolvent_cases c w.left p.literal l in_next) [
          | inr old ↦ old.1 is_l
          | inl new ↦ implies.unassigned.0 (subst (Contains (literals_of (take i places))) (ap negation is_l ∙ negation-negation p.literal)
              (elim (All-contains (λ x. (x ≡ p.literal) ⊎ IsFalseOn (literals_of (take i places)) x) c l implies.others new.0) [
                | inl same_l ↦ absurd (new.1 same_l)
                | inr f ↦ f
              ]))
        ]

-- ---- the lemma

-- the same literals in another order
walk_same : (clauses : List Held) (places : List Place) (down : ℕ) (left lits : Clause) (hints : List ℕ) → ((l : Literal) → Contains left l ↔ Contains lits l) →
    has_distinct_variables lits ≡ true → IsWalk clauses places down left hints → IsWalk clauses places down lits hints
walk_same clauses places down left lits hints same distinct w = record {
  links = w.links;
  last = w.last;
  named = w.named;
  live = w.live;
  derives = λ lemma trues denied fresh. w.derives lemma trues
      (all_from (IsDenied lemma trues) left (λ m t. All-contains (IsDenied lemma trues) lits m denied ((same m).0 t))) fresh;
  distinct = distinct;
  false_now = all_from (IsFalseOn (literals_of places)) lits (λ l t. All-contains (IsFalseOn (literals_of places)) left l w.false_now ((same l).1 t));
  ahead = w.ahead;
  links_apart = w.links_apart;
  apart = all_from (λ (k : Link). All (λ l. k.literal.variable ≢ l.variable) lits) w.links
      (λ k in_k. all_from (λ l. k.literal.variable ≢ l.variable) lits (λ l t.
      All-contains (λ x. k.literal.variable ≢ x.variable) left l
      (All-contains (λ (k : Link). All (λ l. k.literal.variable ≢ l.variable) left) w.links k w.apart in_k) ((same l).1 t)));
  is_left = λ l. ((λ t. (w.is_left l).0 ((same l).1 t)), (λ t. (same l).0 ((w.is_left l).1 t)));
  used = w.used;
}

-- the marks are those of the lemma
pub record Taken (clauses : List Held) (left lits : Clause) (hints : List ℕ) : Type 0 where
  pub same : (l : Literal) → Contains left l ↔ Contains lits l
  pub learnt : IsLearnt clauses lits hints

pub touched_all : (clauses : List Held) (places : List Place) (down : ℕ) (s : MarkState) (hints : List ℕ) → MarkWalk clauses places down s hints → AreTouched s
touched_all clauses places down s hints w = record {
  in_range = w.range;
  covered = λ v t. let (l, in_left, same) = w.known v t in (l, w.touched l in_left, same);
}

pub taken : (clauses : List Held) (places : List Place) (down : ℕ) (s now : MarkState) (hints : List ℕ) (lits : Clause) → IsWalkable clauses places →
    (w : MarkWalk clauses places down s hints) → HasMoved s now [] lits → Taken clauses w.left lits hints
taken clauses places down s now hints lits sound w moved =
    record {
      same = same;
      learnt =
          walk_end clauses places down lits hints
          (walk_same clauses places down w.left lits hints same (ap has_distinct_variables moved.lits ∙ moved.distinct) w.walk);
    }
  where
    same : (l : Literal) → Contains w.left l ↔ Contains lits l
    same l = (
      (λ in_left.
          let (m, in_more, is) = moved.each l.variable (All-contains (λ x. is_marked s x ≡ true) w.left l w.marked in_left) in
          let touched_m = (All-contains (λ x. Contains s.touched x × (is_marked s x ≡ true)) moved.more m moved.from_marks in_more).0 in
          subst (λ xs. Contains xs l) (sym moved.lits) (subst (Contains moved.more)
          (false_same clauses places sound m l (All-contains (IsFalseOn (literals_of places)) s.touched m w.only touched_m)
          (All-contains (IsFalseOn (literals_of places)) w.left l w.walk.false_now in_left) is) in_more)),
      (λ in_lits.
          let from_marks = All-contains (λ x. Contains s.touched x × (is_marked s x ≡ true)) moved.more l moved.from_marks
          (subst (λ xs. Contains xs l) moved.lits in_lits) in
          marked_is_left clauses places down s hints l sound w (All-contains (IsFalseOn (literals_of places)) s.touched l w.only from_marks.0) from_marks.1),
    )

-- the pivot's negation comes first
pub taken_at : (clauses : List Held) (places : List Place) (down : ℕ) (s now : MarkState) (hints : List ℕ) (pivot : Literal) (lits : Clause) →
    IsWalkable clauses places →
    (w : MarkWalk clauses places down s hints) → Contains w.left (negation pivot) → pivot.variable < length s.flags →
    HasMoved (unmarked s pivot) now (negation pivot ∷ []) lits →
    Taken clauses w.left lits hints
taken_at clauses places down s now hints pivot lits sound w denied within moved =
    record { same = same; learnt = walk_end clauses places down lits hints (walk_same clauses places down w.left lits hints same distinct w.walk) }
  where
    Marked : Literal → Type 0
    Marked x = Contains s.touched x × (is_marked (unmarked s pivot) x ≡ true)

    other : (m : Literal) → Contains moved.more m → m.variable ≢ pivot.variable
    other m in_more e = false≢true
        (sym (ap (λ n. get_or (set s.flags pivot.variable false) n false) e ∙ get_or-set_same s.flags pivot.variable false false within) ∙
        (All-contains Marked moved.more m moved.from_marks in_more).1)

    distinct : has_distinct_variables lits ≡ true
    distinct = ap has_distinct_variables moved.lits ∙ distinct_cons (negation pivot) moved.more (λ m in_more. other m in_more) moved.distinct

    same : (l : Literal) → Contains w.left l ↔ Contains lits l
    same l = (
      (λ in_left.
          let false_l : IsFalseOn (literals_of places) l = All-contains (IsFalseOn (literals_of places)) w.left l w.walk.false_now in_left in
          subst (λ xs. Contains xs l) (sym moved.lits) (elim (cases_eq l.variable pivot.variable) [
            | inl is ↦ subst (Contains (negation pivot ∷ moved.more))
                (false_same clauses places sound (negation pivot) l
                (All-contains (IsFalseOn (literals_of places)) w.left (negation pivot) w.walk.false_now denied) false_l (sym is))
                (contains_first (negation pivot) moved.more)
            | inr apart ↦
                let (m, in_more, is) = moved.each l.variable
                (get_or-set_other s.flags pivot.variable l.variable false false apart ∙
                All-contains (λ x. is_marked s x ≡ true) w.left l w.marked in_left) in
                let touched_m = (All-contains Marked moved.more m moved.from_marks in_more).0 in
                cons_contains (negation pivot) moved.more l (subst (Contains moved.more)
                (false_same clauses places sound m l (All-contains (IsFalseOn (literals_of places)) s.touched m w.only touched_m) false_l is) in_more)
          ])),
      (λ in_lits. elim (contains_cases (negation pivot) moved.more l (subst (λ xs. Contains xs l) moved.lits in_lits)) [
        | inl is ↦ subst (Contains w.left) is denied
        | inr later ↦
            let marks = All-contains Marked moved.more l moved.from_marks later in
            marked_is_left clauses places down s hints l sound w (All-contains (IsFalseOn (literals_of places)) s.touched l w.only marks.0)
            (sym (get_or-set_other s.flags pivot.variable l.variable false false (other l later)) ∙ marks.1)
      ]),
    )
