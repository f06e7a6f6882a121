-- The walk over marks to the first unique implication point, and to what no clause implied.
use Rattle.std.proofs.Common.{◌≡◌, ◌≢◌, ℕ, suc, ◌+◌, ◌-◌, ◌<◌, ◌≤◌, arith, true, false, List, [], ◌∷◌, ◌++◌, length, take, drop, get_or, sym, ap}
use Rattle.std.proofs.Common.{subst, ◌∙◌, inl, inr, ◌⊎◌, Some, None}
use Rattle.std.specs.Prelude.{All, Contains, slice_get, is_some}
use Rattle.std.proofs.lemmas.Bool.{cases_Bool, cases_lt, cases_eq, false≢true}
use Rattle.std.proofs.lemmas.List.{take_all, length-set}
use Rattle.std.proofs.lemmas.List.Elements.{All-contains, All-cons}
use Rattle.bs_clause.specs.Literal.{Literal, Clause, negation, has_literal}
use Rattle.bs_clause.specs.Resolvent.{resolvent}
use Rattle.bs_clause.specs.Range.{HasVariables}
use Rattle.bs_log.specs.Refusal.{has_distinct_variables}
use Rattle.bs_arena.specs.Arena.{Held, literals_at}
use Rattle.bs_watch.specs.Places.{Place, literals_of}
use Rattle.bs_solve_lemmas.specs.Reasons.{live_clauses, IsSpared, AreSpared}
use Rattle.bs_watch.specs.declared.watch.Level.{Level}
use Rattle.bs_watch.specs.Trail.{IsFalseOn, IsConflict, IsQuiet}
use Rattle.bs_watch.proofs.Advancing.{true_in_front, take_front}
use Rattle.bs_solve_lemmas.specs.ImplicationPoint.{IsFirstPoint, IsLastDecision, IsReasonless, Bypasses}
use Rattle.bs_solve_lemmas.specs.Marks.{MarkState, is_marked, marks_in, IsClear, HasMarked, HasTraded}
use Rattle.bs_watch.proofs.Gets.{same_some, get_take, take_get, Contains_from_get, get_map}
use Rattle.bs_solve_lemmas.proofs.Literals.{absent, Contains-from_has}
use Rattle.bs_solve_lemmas.proofs.Walkable.{IsClauseAt, IsWalkable, live_contains}
use Rattle.bs_solve_lemmas.proofs.Clauses.{cons_contains, contains_first, all_from, resolvent_cases}
use Rattle.bs_watch.proofs.Literals.{negation-negation}
use Rattle.bs_solve_lemmas.proofs.Counts.{get_drop, OtherPassing, count_some, count_first, count_other, count_pair}
use Rattle.bs_solve_lemmas.proofs.Fronts.{place_of, true_at_end, one_place}
use Rattle.bs_solve_lemmas.proofs.Points.{true_split, false_before}
use Rattle.bs_solve_lemmas.proofs.Ways.{WayFrom, way_start, way_past, way_step, bypass}
use Rattle.bs_solve_lemmas.proofs.MarkWalks.{MarkWalk, denied_at, mark_start, mark_past, mark_step, at_drop, Taken}

-- the walk is at a place of the last level, and so many marked places are left of it
pub record PointMarks (clauses : List Held) (places : List Place) (conflict start down vars : ℕ) (s : MarkState) (hints : List ℕ) (ahead : ℕ) : Type 0 where
  pub high : down ≤ length places
  pub walk : MarkWalk clauses places down s hints
  pub below : All (IsFalseOn (literals_of (take down places))) walk.left
  pub some : 0 < ahead
  pub counted : marks_in s (drop start places) ≡ ahead
  pub flags : length s.flags ≡ vars + 1
  pub ways : (k : ℕ) (p : Place) → slice_get places k ≡ Some p → is_marked s p.literal ≡ true → WayFrom clauses places conflict down k
  pub bypassed : (k : ℕ) → down ≤ k → k < length places → Bypasses clauses places conflict start k

-- a marked place is yet to come
pub marked_ahead : (clauses : List Held) (places : List Place) (down : ℕ) (s : MarkState) (hints : List ℕ) (k : ℕ) (p : Place) → IsWalkable clauses places →
    (w : MarkWalk clauses places down s hints) → All (IsFalseOn (literals_of (take down places))) w.left → slice_get places k ≡ Some p →
    is_marked s p.literal ≡ true → k < down
marked_ahead clauses places down s hints k p sound w below at t =
    let (l, in_left, same) = w.known p.literal.variable t in
    let (j, q, there, is) = place_of (λ (x : Place). x.literal) (take down places) (negation l) (All-contains (IsFalseOn (literals_of (take down places))) w.left l below in_left) in
    let early = get_take down places j q there in
    let one : j ≡ k = one_place (λ (x : Place). x.literal) places (λ k p at. (sound.placed k p at).unassigned) j k q p early.1 at (ap (λ (x : Literal). x.variable) is ∙ same) in
    let before = early.0 in
    omega (arith, one, before)

-- a marked place of the level
pub record MarkedAt (places : List Place) (start : ℕ) (s : MarkState) : Type 0 where
  pub at : ℕ
  pub place : Place
  pub low : start ≤ at
  pub there : slice_get places at ≡ Some place
  pub marked : is_marked s place.literal ≡ true

pub some_marked : (places : List Place) (start : ℕ) (s : MarkState) → 0 < marks_in s (drop start places) → MarkedAt places start s
some_marked places start s h =
    let p = count_first (λ (x : Place). is_marked s x.literal) (drop start places) h in
    record { at = start + p.at; place = p.value; low = omega arith; there = sym (get_drop start places p.at) ∙ p.there; marked = p.passes }

-- the walk is above the level's first place
pub above_start : (clauses : List Held) (places : List Place) (conflict start down vars : ℕ) (s : MarkState) (hints : List ℕ) (ahead : ℕ) →
    IsWalkable clauses places →
    PointMarks clauses places conflict start down vars s hints ahead → start < down
above_start clauses places conflict start down vars s hints ahead sound w =
    let one = some_marked places start s (omega (arith, w.some, w.counted)) in
    let before : one.at < down = marked_ahead clauses places down s hints one.at one.place sound w.walk w.below one.there one.marked in
    omega (arith, one.low, before)

pub point_start : (clauses : List Held) (places : List Place) (start vars at : ℕ) (c : Clause) (s0 s : MarkState) (hints : List ℕ) (ahead down : ℕ) →
    IsWalkable clauses places → IsClauseAt clauses at c → has_distinct_variables c ≡ true → IsConflict (literals_of places) c → HasVariables vars c →
    IsQuiet (literals_of (take start places)) (live_clauses clauses) → IsClear (vars + 1) s0 → HasMarked s0 s c →
    marks_in s (drop start places) ≡ ahead → down ≡ length places → hints ≡ at ∷ [] →
    PointMarks clauses places at start down vars s hints ahead
point_start clauses places start vars at c s0 s hints ahead down sound there distinct conflict range quiet clear marked count is_down is_hints =
    let first = mark_start clauses places at c vars s0 s sound there distinct conflict range clear marked in
    subst (λ d. PointMarks clauses places at start d vars s hints ahead) (sym is_down)
    (subst (λ hs. PointMarks clauses places at start (length places) vars s hs ahead) (sym is_hints) (record {
      high = omega arith;
      walk = first.0;
      below = subst (λ ps. All (IsFalseOn (literals_of ps)) first.0.left) (sym (take_all (length places) places (omega arith)))
          (subst (All (IsFalseOn (literals_of places))) (sym first.1) conflict);
      some = subst (λ n. 0 < n) count positive;
      counted = count;
      flags = marked.length_is ∙ clear.length_is;
      ways = λ k p at_k on. way_start clauses places at (length places) k (record {
        place = p;
        there = at_k;
        denied = subst (λ x. Contains x (negation p.literal)) (first.1 ∙ sym there.is)
            (denied_at clauses places (length places) s (at ∷ []) k p sound first.0 at_k on);
      });
      bypassed = λ k past within. absurd (omega (arith, past, within));
    }))
  where
    find_open : (ls : Clause) → (All (IsFalseOn (literals_of (take start places))) ls) ⊎
        ((l : Literal) × Contains ls l × (¬ IsFalseOn (literals_of (take start places)) l))
    find_open [] = inl (λ k d h. absurd (omega (arith, h)))
    find_open (l ∷ ls) = elim (cases_Bool (has_literal (literals_of (take start places)) (negation l))) as
        (λ _. (All (IsFalseOn (literals_of (take start places))) (l ∷ ls)) ⊎
        ((m : Literal) × Contains (l ∷ ls) m × (¬ IsFalseOn (literals_of (take start places)) m))) [
          | inr open_l ↦ inr (l, contains_first l ls, absent (literals_of (take start places)) (negation l) open_l)
          | inl false_l ↦ elim (find_open ls) as
              (λ _. (All (IsFalseOn (literals_of (take start places))) (l ∷ ls)) ⊎
              ((m : Literal) × Contains (l ∷ ls) m × (¬ IsFalseOn (literals_of (take start places)) m))) [
                | inl rest ↦ inl (All-cons (IsFalseOn (literals_of (take start places))) l ls
                    (Contains-from_has (literals_of (take start places)) (negation l) false_l) rest)
                | inr one ↦ inr (one.0, cons_contains l ls one.0 one.1, one.2)
              ]
        ]

    positive : 0 < marks_in s (drop start places)
    positive = elim (find_open c) [
      | inl all ↦ absurd (All-contains (λ x. ¬ IsConflict (literals_of (take start places)) x) (live_clauses clauses) c quiet.no_conflict
          (live_contains clauses at c there) all)
      | inr one ↦
          let (k, p, at_k, is) = place_of (λ (x : Place). x.literal) places (negation one.0) (All-contains (IsFalseOn (literals_of places)) c one.0 conflict one.1) in
          elim (cases_lt k start) [
            | inl before ↦ absurd (one.2 (Contains_from_get (literals_of (take start places)) k (negation one.0)
                (get_map (λ (x : Place). x.literal) (take start places) k p (take_get start places k p before at_k) ∙ ap Some is)))
            | inr past ↦ count_some (λ (x : Place). is_marked s x.literal) (drop start places) (k - start) p (at_drop places start k p past at_k)
                (ap (λ (x : Literal). get_or s.flags x.variable false) is ∙ All-contains (λ x. is_marked s x ≡ true) c one.0 marked.stands one.1)
          ]
    ]

pub point_past : (clauses : List Held) (places : List Place) (conflict start down i vars : ℕ) (s : MarkState) (hints : List ℕ) (ahead : ℕ) (p : Place) →
    IsWalkable clauses places → IsLastDecision places start → IsQuiet (literals_of (take start places)) (live_clauses clauses) → down ≡ suc i →
    slice_get places i ≡ Some p →
    is_marked s p.literal ≡ false → PointMarks clauses places conflict start down vars s hints ahead →
    PointMarks clauses places conflict start i vars s hints ahead
point_past clauses places conflict start down i vars s hints ahead p sound last quiet e at off v =
    let w : PointMarks clauses places conflict start (suc i) vars s hints ahead =
    subst (λ d. PointMarks clauses places conflict start d vars s hints ahead) e v in
    let next = mark_past clauses places i s hints w.walk in
    let one = some_marked places start s (omega (arith, w.some, w.counted)) in
    let before : one.at < suc i = marked_ahead clauses places (suc i) s hints one.at one.place sound w.walk w.below one.there one.marked in
    let other : one.at ≢ i = λ same. false≢true
    (sym off ∙ ap (λ (x : Place). is_marked s x.literal) (same_some p one.place (sym at ∙ ap (slice_get places) (sym same) ∙ one.there)) ∙ one.marked) in
    record {
      high = (let h = w.high in omega (arith, h));
      walk = next.0;
      below = subst (All (IsFalseOn (literals_of (take i places)))) (sym next.1) (all_from (IsFalseOn (literals_of (take i places))) w.walk.left (λ m in_left.
          false_before places i p m at
          (λ same. false≢true (sym off ∙ ap (λ (x : Literal). get_or s.flags x.variable false) (sym same) ∙
          All-contains (λ x. is_marked s x ≡ true) w.walk.left m w.walk.marked in_left))
          (All-contains (IsFalseOn (literals_of (take (suc i) places))) w.walk.left m w.below in_left)));
      some = w.some;
      counted = w.counted;
      flags = w.flags;
      ways = λ k q at_k on. way_past clauses places conflict i k (w.ways k q at_k on);
      bypassed = λ k past within. elim (cases_eq k i) [
        | inr later ↦ w.bypassed k (omega (arith, past, λ (x : k ≡ i). later x)) within
        | inl same ↦ subst (Bypasses clauses places conflict start) (sym same)
            (bypass clauses places conflict start i one.at one.place sound last quiet one.there one.low (omega (arith, before, λ (x : one.at ≡ i). other x))
            (w.ways one.at one.place one.there one.marked))
      ];
    }

pub point_step : (clauses : List Held) (places : List Place) (conflict start down i vars : ℕ) (s now : MarkState) (hints more : List ℕ)
    (ahead left_ahead : ℕ) (p : Place) (r : ℕ) →
    IsWalkable clauses places → IsLastDecision places start → IsQuiet (literals_of (take start places)) (live_clauses clauses) →
    All (λ c. has_distinct_variables c ≡ true) (live_clauses clauses) → All (HasVariables vars) (live_clauses clauses) → down ≡ suc i →
    slice_get places i ≡ Some p → p.reason ≡ Some r →
    is_marked s p.literal ≡ true → HasTraded s now (literals_at clauses r) p.literal → marks_in now (drop start places) ≡ left_ahead →
    ahead ≤ left_ahead + 1 → ahead ≢ 1 → more ≡ hints ++ r ∷ [] →
    PointMarks clauses places conflict start down vars s hints ahead → PointMarks clauses places conflict start i vars now more left_ahead
point_step clauses places conflict start down i vars s now hints more ahead left_ahead p r sound last quiet distinct range e at is on traded count
    fewer many is_more v =
    let w : PointMarks clauses places conflict start (suc i) vars s hints ahead =
    subst (λ d. PointMarks clauses places conflict start d vars s hints ahead) e v in
    let f = (sound.placed i p at).implied r is in
    let c : Clause = f.0 in
    let at_r : literals_at clauses r ≡ c = f.1.is in
    let in_clauses : Contains (live_clauses clauses) c = live_contains clauses r c f.1 in
    let traded_c : HasTraded s now c p.literal = subst (λ x. HasTraded s now x p.literal) at_r traded in
    let next = mark_step clauses places i s now hints p r c vars sound w.walk at is f.1
    (All-contains (λ x. has_distinct_variables x ≡ true) (live_clauses clauses) c distinct in_clauses)
    (All-contains (HasVariables vars) (live_clauses clauses) c range in_clauses) w.flags on traded_c in
    let low : start < suc i = above_start clauses places conflict start (suc i) vars s hints ahead sound w in
    let two : 1 < marks_in s (drop start places) =
    (let h = w.some in elim (cases_eq ahead 1) [ inl one ↦ absurd (many one) | inr other ↦ omega (arith, h, w.counted, λ (x : ahead ≡ 1). other x) ]) in
    let o : OtherPassing (λ (x : Place). is_marked s x.literal) (drop start places) (i - start) =
    count_other (λ (x : Place). is_marked s x.literal) (drop start places) (i - start) two in
    let there_o : slice_get places (start + o.one.at) ≡ Some o.one.value = sym (get_drop start places o.one.at) ∙ o.one.there in
    let before : start + o.one.at < suc i =
    marked_ahead clauses places (suc i) s hints (start + o.one.at) o.one.value sound w.walk w.below there_o o.one.passes in
    let under : start + o.one.at < i = omega (arith, before, low, λ (x : o.one.at ≡ i - start). o.apart x) in
    subst (λ hs. PointMarks clauses places conflict start i vars now hs left_ahead) (sym is_more) (record {
      high = (let h = w.high in omega (arith, h));
      walk = next.0;
      below = subst (All (IsFalseOn (literals_of (take i places)))) (sym next.1)
          (all_from (IsFalseOn (literals_of (take i places))) (resolvent c w.walk.left p.literal) (λ m in_new.
          elim (resolvent_cases c w.walk.left p.literal m in_new) [
            | inl fresh ↦ elim (All-contains (λ x. (x ≡ p.literal) ⊎ IsFalseOn (literals_of (take i places)) x) c m f.2.others fresh.0) [
              | inl same ↦ absurd (fresh.1 same)
              | inr false_m ↦ false_m
            ]
            | inr old ↦ false_before places i p m at old.1 (All-contains (IsFalseOn (literals_of (take (suc i) places))) w.walk.left m w.below old.0)
          ]));
      some = (let h = w.some in elim (cases_eq ahead 1) [ inl one ↦ absurd (many one) | inr other ↦ omega (arith, h, fewer, λ (x : ahead ≡ 1). other x) ]);
      counted = count;
      flags = ap (λ (x : MarkState). length x.flags) traded_c.pivot_gone ∙ length-set traded_c.middle.flags p.literal.variable false ∙
          traded_c.marked.length_is ∙ w.flags;
      ways = λ k q at_k now_on.
          let denied : Contains (resolvent c w.walk.left p.literal) (negation q.literal) =
          subst (λ xs. Contains xs (negation q.literal)) next.1 (denied_at clauses places i now (hints ++ r ∷ []) k q sound next.0 at_k now_on) in
          elim (resolvent_cases c w.walk.left p.literal (negation q.literal) denied) as (λ _. WayFrom clauses places conflict i k) [
            | inl fresh ↦ way_step clauses places conflict i k (record {
              place = p;
              there = at;
              reason = r;
              is = is;
              denies = record { place = q; there = at_k; denied = subst (λ x. Contains x (negation q.literal)) (sym at_r) fresh.0 };
            }) (w.ways i p at on)
            | inr old ↦ way_past clauses places conflict i k
                (w.ways k q at_k (All-contains (λ x. is_marked s x ≡ true) w.walk.left (negation q.literal) w.walk.marked old.0))
          ];
      bypassed = λ k past within. elim (cases_eq k i) [
        | inr later ↦ w.bypassed k (omega (arith, past, λ (x : k ≡ i). later x)) within
        | inl same ↦ subst (Bypasses clauses places conflict start) (sym same)
            (bypass clauses places conflict start i (start + o.one.at) o.one.value sound last quiet there_o (omega arith) under
            (w.ways (start + o.one.at) o.one.value there_o o.one.passes))
      ];
    })

-- the only marked place of the level
pub point_end : (clauses : List Held) (places : List Place) (conflict start down i vars : ℕ) (s : MarkState) (hints : List ℕ) (p : Place) (lits : Clause) →
    IsWalkable clauses places → down ≡ suc i → slice_get places i ≡ Some p → is_marked s p.literal ≡ true →
    (w : PointMarks clauses places conflict start down vars s hints 1) → slice_get lits 0 ≡ Some (negation p.literal) →
    Taken clauses w.walk.left lits hints → IsFirstPoint clauses places conflict start lits
point_end clauses places conflict start down i vars s hints p lits sound e at on w first t = record {
  point = record {
    at = i;
    place = p;
    there = at;
    low = low;
    first = first;
    others = all_from (λ m. (m ≡ negation p.literal) ⊎ IsFalseOn (literals_of (take start places)) m) lits (λ m in_lits.
        let in_left = (t.same m).1 in_lits in
        let (k, q, at_k, is) = place_of (λ (x : Place). x.literal) places (negation m) (All-contains (IsFalseOn (literals_of places)) w.walk.left m w.walk.walk.false_now in_left) in
        elim (cases_lt k start) [
          | inl before ↦ inr (Contains_from_get (literals_of (take start places)) k (negation m)
              (get_map (λ (x : Place). x.literal) (take start places) k q (take_get start places k q before at_k) ∙ ap Some is))
          | inr past ↦ elim (cases_eq k i) [
            | inl same ↦ inl (sym (negation-negation m) ∙
                ap negation (sym is ∙ ap (λ (x : Place). x.literal) (same_some q p (sym at_k ∙ ap (slice_get places) same ∙ at))))
            | inr other ↦ absurd (
                let two = count_pair (λ (x : Place). is_marked s x.literal) (drop start places) (k - start) (i - start) q p
                (at_drop places start k q past at_k) (at_drop places start i p low at)
                (ap (λ (x : Literal). get_or s.flags x.variable false) is ∙ All-contains (λ x. is_marked s x ≡ true) w.walk.left m w.walk.marked in_left) on
                (λ (d : k - start ≡ i - start). other (let r : k ≡ i = omega (arith, d, past, low) in r)) in
                omega (arith, two, w.counted))
          ]
        ]);
  };
  bypassed = λ k above within. w.bypassed k (omega (arith, above, e)) within;
}
  where
    low : start ≤ i
    low = let h = above_start clauses places conflict start down vars s hints 1 sound w in omega (arith, h, e)

-- the walk to what no clause implied
pub record FinalMarks (clauses : List Held) (levels : List Level) (places : List Place) (down vars : ℕ) (s : MarkState) (hints : List ℕ) : Type 0 where
  pub high : down ≤ length places
  pub walk : MarkWalk clauses places down s hints
  pub below : All (λ m. IsFalseOn (literals_of (take down places)) m ⊎ IsReasonless places (negation m)) walk.left
  pub spared : (v : Level) → slice_get levels 0 ≡ Some v → IsSpared (take v.start places) walk.left
  pub flags : length s.flags ≡ vars + 1

pub final_start : (clauses : List Held) (levels : List Level) (places : List Place) (vars at : ℕ) (c : Clause) (s0 s : MarkState) (hints : List ℕ) (down : ℕ) →
    IsWalkable clauses places → IsClauseAt clauses at c → has_distinct_variables c ≡ true → IsConflict (literals_of places) c → HasVariables vars c →
    AreSpared clauses levels places → IsClear (vars + 1) s0 → HasMarked s0 s c → down ≡ length places → hints ≡ at ∷ [] →
    FinalMarks clauses levels places down vars s hints
final_start clauses levels places vars at c s0 s hints down sound there distinct conflict range spared clear marked is_down is_hints =
    let first = mark_start clauses places at c vars s0 s sound there distinct conflict range clear marked in
    subst (λ d. FinalMarks clauses levels places d vars s hints) (sym is_down)
    (subst (λ hs. FinalMarks clauses levels places (length places) vars s hs) (sym is_hints) (record {
      high = omega arith;
      walk = first.0;
      below = subst (All (λ m. IsFalseOn (literals_of (take (length places) places)) m ⊎ IsReasonless places (negation m))) (sym first.1)
          (λ k d h. inl (subst (λ ps. IsFalseOn (literals_of ps) (get_or c k d)) (sym (take_all (length places) places (omega arith))) (conflict k d h)));
      spared = λ v is. subst (IsSpared (take v.start places)) (sym first.1)
          (All-contains (IsSpared (take v.start places)) (live_clauses clauses) c (spared.each v is) (live_contains clauses at c there));
      flags = marked.length_is ∙ clear.length_is;
    }))

-- a place without a mark, or that no clause implied
pub final_past : (clauses : List Held) (levels : List Level) (places : List Place) (down i vars : ℕ) (s : MarkState) (hints : List ℕ) (p : Place) →
    down ≡ suc i →
    slice_get places i ≡ Some p →
    ((is_marked s p.literal ≡ false) ⊎ (p.reason ≡ None)) → FinalMarks clauses levels places down vars s hints → FinalMarks clauses levels places i vars s hints
final_past clauses levels places down i vars s hints p e at past v =
    let w : FinalMarks clauses levels places (suc i) vars s hints = subst (λ d. FinalMarks clauses levels places d vars s hints) e v in
    let next = mark_past clauses places i s hints w.walk in
    record {
      high = (let h = w.high in omega (arith, h));
      walk = next.0;
      below = subst (All (λ m. IsFalseOn (literals_of (take i places)) m ⊎ IsReasonless places (negation m))) (sym next.1)
          (all_from (λ m. IsFalseOn (literals_of (take i places)) m ⊎ IsReasonless places (negation m)) w.walk.left (λ m in_left.
          elim (All-contains (λ x. IsFalseOn (literals_of (take (suc i) places)) x ⊎ IsReasonless places (negation x)) w.walk.left m w.below in_left) [
            | inr free ↦ inr free
            | inl false_m ↦ elim (true_split places i p (negation m) at false_m) [
              | inr before ↦ inl before
              | inl is ↦ elim (past) [
                | inl off ↦ absurd (false≢true (sym off ∙ ap (λ (x : Literal). get_or s.flags x.variable false) is ∙
                    All-contains (λ x. is_marked s x ≡ true) w.walk.left m w.walk.marked in_left))
                | inr free ↦ inr (record { at = i; place = p; there = at; same = is; free = free })
              ]
            ]
          ]));
      spared = λ v is. subst (IsSpared (take v.start places)) (sym next.1) (w.spared v is);
      flags = w.flags;
    }

pub final_step : (clauses : List Held) (levels : List Level) (places : List Place) (down i vars : ℕ) (s now : MarkState) (hints more : List ℕ)
    (p : Place) (r : ℕ) →
    IsWalkable clauses places → All (λ c. has_distinct_variables c ≡ true) (live_clauses clauses) → All (HasVariables vars) (live_clauses clauses) →
    AreSpared clauses levels places → down ≡ suc i → slice_get places i ≡ Some p → p.reason ≡ Some r →
    is_marked s p.literal ≡ true → HasTraded s now (literals_at clauses r) p.literal → more ≡ hints ++ r ∷ [] →
    FinalMarks clauses levels places down vars s hints → FinalMarks clauses levels places i vars now more
final_step clauses levels places down i vars s now hints more p r sound distinct range spared e at is on traded is_more v =
    let w : FinalMarks clauses levels places (suc i) vars s hints = subst (λ d. FinalMarks clauses levels places d vars s hints) e v in
    let f = (sound.placed i p at).implied r is in
    let c : Clause = f.0 in
    let at_r : literals_at clauses r ≡ c = f.1.is in
    let in_clauses : Contains (live_clauses clauses) c = live_contains clauses r c f.1 in
    let traded_c : HasTraded s now c p.literal = subst (λ x. HasTraded s now x p.literal) at_r traded in
    let next = mark_step clauses places i s now hints p r c vars sound w.walk at is f.1
    (All-contains (λ x. has_distinct_variables x ≡ true) (live_clauses clauses) c distinct in_clauses)
    (All-contains (HasVariables vars) (live_clauses clauses) c range in_clauses) w.flags on traded_c in
    subst (λ hs. FinalMarks clauses levels places i vars now hs) (sym is_more) (record {
      high = (let h = w.high in omega (arith, h));
      walk = next.0;
      below = subst (All (λ m. IsFalseOn (literals_of (take i places)) m ⊎ IsReasonless places (negation m))) (sym next.1)
          (all_from (λ m. IsFalseOn (literals_of (take i places)) m ⊎ IsReasonless places (negation m)) (resolvent c w.walk.left p.literal) (λ m in_new.
          elim (resolvent_cases c w.walk.left p.literal m in_new) [
            | inl fresh ↦ elim (All-contains (λ x. (x ≡ p.literal) ⊎ IsFalseOn (literals_of (take i places)) x) c m f.2.others fresh.0) [
              | inl same ↦ absurd (fresh.1 same)
              | inr false_m ↦ inl false_m
            ]
            | inr old ↦ elim (All-contains
                (λ x. IsFalseOn (literals_of (take (suc i) places)) x ⊎ IsReasonless places (negation x)) w.walk.left m w.below old.0) [
                  | inl false_m ↦ inl (false_before places i p m at old.1 false_m)
                  | inr free ↦ inr free
                ]
          ]));
      spared = λ v first. subst (IsSpared (take v.start places)) (sym next.1)
          (all_from (λ m. ¬ IsFalseOn (literals_of (take v.start places)) m) (resolvent c w.walk.left p.literal) (λ m in_new.
          elim (resolvent_cases c w.walk.left p.literal m in_new) [
            | inl fresh ↦ All-contains (λ x. ¬ IsFalseOn (literals_of (take v.start places)) x) c m
                (All-contains (IsSpared (take v.start places)) (live_clauses clauses) c (spared.each v first) in_clauses) fresh.0
            | inr old ↦ All-contains (λ x. ¬ IsFalseOn (literals_of (take v.start places)) x) w.walk.left m (w.spared v first) old.0
          ]));
      flags = ap (λ (x : MarkState). length x.flags) traded_c.pivot_gone ∙ length-set traded_c.middle.flags p.literal.variable false ∙
          traded_c.marked.length_is ∙ w.flags;
    })

-- what is false on a front is false on a longer one
false_further : (places : List Place) (n m : ℕ) (l : Literal) → n ≤ m → IsFalseOn (literals_of (take n places)) l →
    IsFalseOn (literals_of (take m places)) l
false_further places n m l h lost =
    true_in_front n (take m places) (negation l) (subst (λ ps. IsFalseOn (literals_of ps) l) (sym (take_front m n places h)) lost)

-- the walk may end where the first level begins
pub final_end : (clauses : List Held) (levels : List Level) (places : List Place) (down vars : ℕ) (s : MarkState) (hints : List ℕ) (lits : Clause)
    (v : Level) → slice_get levels 0 ≡ Some v → down ≤ v.start → (w : FinalMarks clauses levels places down vars s hints) →
    Taken clauses w.walk.left lits hints → All (λ l. IsReasonless places (negation l)) lits
final_end clauses levels places down vars s hints lits v first low w t =
    all_from (λ l. IsReasonless places (negation l)) lits (λ m in_lits.
    let in_left = (t.same m).1 in_lits in
    elim (All-contains (λ x. IsFalseOn (literals_of (take down places)) x ⊎ IsReasonless places (negation x)) w.walk.left m w.below in_left) [
      | inl false_m ↦ absurd (All-contains (λ x. ¬ IsFalseOn (literals_of (take v.start places)) x) w.walk.left m (w.spared v first) in_left
          (false_further places down v.start m low false_m))
      | inr free ↦ free
    ])

-- ---- what a trade asks

-- the reason's literals are the pivot, which is marked, and false ones
pub reason_known : (clauses : List Held) (places : List Place) (i : ℕ) (s : MarkState) (p : Place) (r : ℕ) → IsWalkable clauses places →
    slice_get places i ≡ Some p → p.reason ≡ Some r → is_marked s p.literal ≡ true →
    All (λ m. (is_marked s m ≡ true) ⊎ IsFalseOn (literals_of places) m) (literals_at clauses r)
reason_known clauses places i s p r sound at is on =
    let f = (sound.placed i p at).implied r is in
    subst (All (λ m. (is_marked s m ≡ true) ⊎ IsFalseOn (literals_of places) m)) (sym (f.1.is))
    (all_from (λ m. (is_marked s m ≡ true) ⊎ IsFalseOn (literals_of places) m) f.0 (λ m in_c.
    elim (All-contains (λ x. (x ≡ p.literal) ⊎ IsFalseOn (literals_of (take i places)) x) f.0 m f.2.others in_c) as
    (λ _. (is_marked s m ≡ true) ⊎ IsFalseOn (literals_of places) m) [
      | inl same ↦ inl (ap (is_marked s) same ∙ on)
      | inr false_m ↦ inr (true_at_end (λ (x : Place). x.literal) places i (negation m) false_m)
    ]))

-- a place from a place on
pub stands_behind : (places : List Place) (start i : ℕ) (p : Place) → start ≤ i → slice_get places i ≡ Some p →
    Contains (literals_of (drop start places)) p.literal
stands_behind places start i p low at =
    Contains_from_get (literals_of (drop start places)) (i - start) p.literal
    (get_map (λ (x : Place). x.literal) (drop start places) (i - start) p (at_drop places start i p low at))

-- where more than one place is marked, the newest was implied
pub point_implied : (clauses : List Held) (places : List Place) (conflict start down i vars : ℕ) (s : MarkState) (hints : List ℕ) (ahead : ℕ) (p : Place) →
    IsWalkable clauses places → IsLastDecision places start → down ≡ suc i → slice_get places i ≡ Some p → ahead ≢ 1 → p.reason ≡ None →
    PointMarks clauses places conflict start down vars s hints ahead → ⊥
point_implied clauses places conflict start down i vars s hints ahead p sound last e at many free w = elim (cases_lt start i) [
  | inl later ↦ false≢true (sym (ap is_some free) ∙ last.implied i p later at)
  | inr first ↦
      let h = w.some in
      let two : 1 < marks_in s (drop start places) =
      elim (cases_eq ahead 1) [ inl one ↦ absurd (many one) | inr other ↦ omega (arith, h, w.counted, λ (x : ahead ≡ 1). other x) ] in
      let o : OtherPassing (λ (x : Place). is_marked s x.literal) (drop start places) 0 =
      count_other (λ (x : Place). is_marked s x.literal) (drop start places) 0 two in
      let before : start + o.one.at < down =
      marked_ahead clauses places down s hints (start + o.one.at) o.one.value sound w.walk w.below
      (sym (get_drop start places o.one.at) ∙ o.one.there) o.one.passes in
      o.apart (let z : o.one.at ≡ 0 = omega (arith, before, e, first) in z)
]
