-- The levels of a search, from one round to the next.
use Rattle.std.proofs.Common.{◌≡◌, ℕ, ◌-◌, ◌<◌, ◌≤◌, arith, true, List, [], ◌∷◌, ◌++◌, length, take, refl, sym, ap, subst, ◌∙◌, inl, inr, Option, Some, None}
use Rattle.std.specs.Prelude.{Contains, slice_get, is_some, option_map, unwrap_or}
use Rattle.std.proofs.lemmas.Bool.{cases_lt, cases_eq, false≢true}
use Rattle.std.proofs.lemmas.List.{length-take-le, length_push, take-append-le, take_at, take_all}
use Rattle.bs_clause.specs.Literal.{Clause}
use Rattle.bs_arena.specs.Arena.{Held, literals_at}
use Rattle.bs_watch.specs.declared.watch.Level.{Level}
use Rattle.bs_watch.specs.Trail.{IsTrueOn}
use Rattle.bs_watch.specs.Places.{Place, literals_of}
use Rattle.bs_watch.specs.Look.{HasTrue}
use Rattle.bs_watch.specs.Scene.{AreShuffled, Grows}
use Rattle.bs_watch.proofs.Advancing.{true_in_front, stays_true, true_carries, take_front}
use Rattle.bs_watch.proofs.Gets.{some_at, same_some, get_left, get_last, get_push_cases, get_take, take_get, get_within}
use Rattle.bs_solve_lemmas.specs.Reasons.{last_start}
use Rattle.bs_solve_lemmas.specs.ImplicationPoint.{IsDecisionAt, IsLastDecision}
use Rattle.bs_solve.specs.Begun.{AreBegun, AreSatisfied}

-- ---- lists

decision_left : (places more : List Place) (at : ℕ) → IsDecisionAt places at → IsDecisionAt (places ++ more) at
decision_left places more at d = record { place = d.place; there = get_left places more at d.place d.there; decision = d.decision }

-- ---- levels

pub begun_first : (base : ℕ) (v : Level) (places : List Place) → v.start ≤ base → v.start ≤ length places →
    ((k : ℕ) (p : Place) → base ≤ k → slice_get places k ≡ Some p → is_some p.reason ≡ true) → AreBegun base (v ∷ []) places
begun_first base v places low within implied = record {
  some = omega arith;
  first = λ u e. let is = ap (λ (x : Level). x.start) (same_some v u e) in (omega (arith, is, low), omega (arith, is, within));
  on = λ j u one e. absurd (let h = get_within (v ∷ []) j u e in omega (arith, h, one));
  only = λ k p past e none. absurd (false≢true (sym (ap is_some none) ∙ implied k p past e));
  ascends = λ i j u w low h e d. absurd (let h2 = get_within (v ∷ []) j w d in omega (arith, h2, low, h));
  deep = λ j u e. let h = get_within (v ∷ []) j u e in omega (arith, h);
  few = omega arith;
}

pub begun_decided : (base : ℕ) (levels : List Level) (places : List Place) (v : Level) (p : Place) → AreBegun base levels places → base ≤ length places →
    v.start ≡ length places → p.reason ≡ None → AreBegun base (levels ++ v ∷ []) (places ++ p ∷ [])
begun_decided base levels places v p b low at free = record {
  some = let h = length_push levels v in omega (arith, h);
  first = λ u e. elim (get_push_cases levels v u 0 e) [
    | inl there ↦ let f = b.first u there in let h = length_push places p in (f.0, (let g = f.1 in omega (arith, g, h)))
    | inr last ↦ absurd (let h = last.0 in let some = b.some in omega (arith, h, some))
  ];
  on = λ j u above e. elim (get_push_cases levels v u j e) [
    | inl there ↦ ((b.on j u above there).0, decision_left places (p ∷ []) u.start (b.on j u above there).1)
    | inr last ↦
        let start : u.start ≡ length places = ap (λ (x : Level). x.start) (sym last.1) ∙ at in
        (omega (arith, start, low), record { place = p; there = ap (slice_get (places ++ p ∷ [])) start ∙ get_last places p; decision = free })
  ];
  only = λ k q above e none. elim (get_push_cases places p q k e) [
    | inl there ↦
        let (j, u, one, found, is) = b.only k q above there none in
        (j, u, one, get_left levels (v ∷ []) j u found, is)
    | inr last ↦ (length levels, v, b.some, get_last levels v, at ∙ sym last.0)
  ];
  ascends = λ i j u w one before e d. elim (get_push_cases levels v w j d) [
    | inl there ↦ elim (get_push_cases levels v u i e) [
      | inl here ↦ b.ascends i j u w one before here there
      | inr last ↦ absurd (let h = get_within levels j w there in let is = last.0 in omega (arith, h, is, before))
    ]
    | inr last ↦ elim (get_push_cases levels v u i e) [
      | inl here ↦
          let d = (b.on i u one here).1 in
          let within = get_within places u.start d.place d.there in
          let start : w.start ≡ length places = ap (λ (x : Level). x.start) (sym last.1) ∙ at in
          omega (arith, within, start)
      | inr also ↦ absurd (let x = last.0 in let y = also.0 in omega (arith, x, y, before))
    ]
  ];
  deep = λ j u e. elim (get_push_cases levels v u j e) [
    | inl there ↦ b.deep j u there
    | inr last ↦
        let start : u.start ≡ length places = ap (λ (x : Level). x.start) (sym last.1) ∙ at in
        let few = b.few in
        let is = last.0 in
        omega (arith, start, few, is)
  ];
  few = let h = length_push levels v in let g = length_push places p in let few = b.few in omega (arith, h, g, few);
}

-- implied places
pub begun_more : (base : ℕ) (levels : List Level) (old new : List Place) → AreBegun base levels old → length old ≤ length new →
    take (length old) new ≡ old → ((k : ℕ) (p : Place) → length old ≤ k → slice_get new k ≡ Some p → is_some p.reason ≡ true) → AreBegun base levels new
begun_more base levels old new b longer front implied = record {
  some = b.some;
  first = λ u e. let f = b.first u e in (f.0, (let g = f.1 in omega (arith, g, longer)));
  on = λ j u above e.
      let was = b.on j u above e in
      let d = was.1 in (
        was.0,
        record {
          place = d.place;
          there = (get_take (length old) new u.start d.place (subst (λ ps. slice_get ps u.start ≡ Some d.place) (sym front) d.there)).1;
          decision = d.decision;
        },
      );
  only = λ k p above e none. elim (cases_lt k (length old)) [
    | inl early ↦ b.only k p above (subst (λ ps. slice_get ps k ≡ Some p) front (take_get (length old) new k p early e)) none
    | inr late ↦ absurd (some_none p (implied k p late e) none)
  ];
  ascends = b.ascends;
  deep = b.deep;
  few = let few = b.few in omega (arith, few, longer);
}
  where
    some_none : (p : Place) → is_some p.reason ≡ true → p.reason ≡ None → ⊥
    some_none p is none = false≢true (sym (ap is_some none) ∙ is)

pub begun_grows : (base level : ℕ) (levels : List Level) (clauses : List Held) (old new : List Place) → AreBegun base levels old →
    Grows clauses level old new → AreBegun base levels new
begun_grows base level levels clauses old new b g =
    begun_more base levels old new b g.longer g.front (λ k p late e. let f = g.implied k p late e in ap is_some f.reason)

pub begun_implied : (base r : ℕ) (levels : List Level) (places : List Place) (p : Place) → AreBegun base levels places → p.reason ≡ Some r →
    AreBegun base levels (places ++ p ∷ [])
begun_implied base r levels places p b is =
    begun_more base levels places (places ++ p ∷ []) b (let h = length_push places p in omega (arith, h))
    (take_at places (p ∷ []) (length places) refl)
    (λ k q late e. elim (get_push_cases places p q k e) [
      | inl there ↦ absurd (let h = get_within places k q there in omega (arith, h, late))
      | inr last ↦ ap (λ (x : Place). is_some x.reason) (sym last.1) ∙ ap is_some is
    ])

pub begun_cut : (base n : ℕ) (levels : List Level) (places : List Place) (v : Level) → AreBegun base levels places → 1 ≤ n → slice_get levels n ≡ Some v →
    AreBegun base (take n levels) (take v.start places)
begun_cut base n levels places v b one at =
    let within_levels = get_within levels n v at in
    let d = (b.on n v one at).1 in
    let within = get_within places v.start d.place d.there in
    let count : length (take n levels) ≡ n = length-take-le n levels (omega (arith, within_levels)) in
    let taken : length (take v.start places) ≡ v.start = length-take-le v.start places (omega (arith, within)) in
    record {
      some = omega (arith, count, one);
      first = λ u e. let f = b.first u (get_take n levels 0 u e).1 in (f.0, (let g = f.0 in let low = (b.on n v one at).0 in omega (arith, g, low, taken)));
      on = λ j u above e.
          let (before, found) = get_take n levels j u e in
          let was = b.on j u above found in
          let less = b.ascends j n u v above before found at in
          (was.0, record { place = was.1.place; there = take_get v.start places u.start was.1.place less was.1.there; decision = was.1.decision });
      only = λ k p above e none.
          let (before, found) = get_take v.start places k p e in
          let (j, u, low, there, is) = b.only k p above found none in
          (j, u, low, take_get n levels j u (earlier j u k low there is before) there, is);
      ascends = λ i j u w low before e f. b.ascends i j u w low before (get_take n levels i u e).1 (get_take n levels j w f).1;
      deep = λ j u e. b.deep j u (get_take n levels j u e).1;
      few = let deep = b.deep n v at in omega (arith, count, taken, deep);
    }
  where
    earlier : (j : ℕ) (u : Level) (k : ℕ) → 1 ≤ j → slice_get levels j ≡ Some u → u.start ≡ k → k < v.start → j < n
    earlier j u k low there is before = elim (cases_lt j n) [
      | inl less ↦ less
      | inr past ↦ elim (cases_eq n j) [
        | inl same ↦
            let e : v ≡ u = same_some v u (sym at ∙ ap (slice_get levels) same ∙ there) in
            absurd (let starts = ap (λ (x : Level). x.start) e in omega (arith, starts, is, before))
        | inr other ↦
            let h = b.ascends n j v u one (omega (arith, past, λ (e : n ≡ j). other e)) at there in
            absurd (omega (arith, h, is, before))
      ]
    ]

-- where the last level is not the first, it begins with the last decision
pub last_level : (base : ℕ) (levels : List Level) (places : List Place) → AreBegun base levels places → 2 ≤ length levels →
    (v : Level) × (slice_get levels (length levels - 1) ≡ Some v) × (last_start levels ≡ v.start) × (base ≤ v.start) × IsLastDecision places v.start
last_level base levels places b deep =
    let (v, at) = some_at levels (length levels - 1) (omega (arith, deep)) in
    let on = b.on (length levels - 1) v (omega (arith, deep)) at in (
      v,
      at,
      ap (λ o. unwrap_or (option_map (λ (x : Level). x.start) o) 0) at,
      on.0,
      record {
        decided = on.1;
        implied = λ k p later e. by v at on.0 k p later e p.reason refl;
      },
    )
  where
    by : (v : Level) → slice_get levels (length levels - 1) ≡ Some v → base ≤ v.start → (k : ℕ) (p : Place) → v.start < k → slice_get places k ≡ Some p →
        (o : Option ℕ) → p.reason ≡ o → is_some p.reason ≡ true
    by v at low k p later e (Some r) is = ap is_some is
    by v at low k p later e None is =
        let (j, u, one, there, start) = b.only k p (omega (arith, low, later)) e is in
        let within = get_within levels j u there in
        absurd (elim (cases_lt j (length levels - 1)) [
          | inl before ↦ let h = b.ascends j (length levels - 1) u v one before there at in omega (arith, h, start, later)
          | inr past ↦
              let same : j ≡ length levels - 1 = omega (arith, past, within) in
              let is_v : u ≡ v = same_some u v (sym there ∙ ap (slice_get levels) same ∙ at) in
              let starts = ap (λ (x : Level). x.start) is_v in omega (arith, starts, start, later)
        ])

-- ---- short clauses

pub satisfied_grows : (shorts : List ℕ) (old new : List Held) (level : ℕ) (levels : List Level) (before after : List Place) → AreSatisfied shorts old levels before →
    AreShuffled old new → Grows new level before after → ((v : Level) → slice_get levels 1 ≡ Some v → v.start ≤ length before) →
    AreSatisfied shorts new levels after
satisfied_grows shorts old new level levels before after a s g within = record {
  now = λ r there.
      true_carries (literals_of before) (literals_of after) (literals_at old r) (literals_at new r) (λ l. stays_true new level before after l g)
      (s.same r) (a.now r there);
  below = λ r v there e.
      let same : take v.start after ≡ take v.start before = sym (take_front (length before) v.start after (within v e)) ∙ ap (take v.start) g.front in
      subst (λ ps. HasTrue (literals_of ps) (literals_at new r)) (sym same)
      (true_carries (literals_of (take v.start before)) (literals_of (take v.start before)) (literals_at old r) (literals_at new r) (λ l t. t)
      (s.same r) (a.below r v there e));
}

pub true_left : (places more : List Place) (c : Clause) → HasTrue (literals_of places) c → HasTrue (literals_of (places ++ more)) c
true_left places more c h = record {
  literal = h.literal;
  stands = h.stands;
  holds = true_in_front (length places) (places ++ more) h.literal
      (subst (λ ps. IsTrueOn (literals_of ps) h.literal) (sym (take_at places more (length places) refl)) h.holds);
}

-- a place is taken on the last level, or on a new one
pub satisfied_push : (shorts : List ℕ) (clauses : List Held) (levels : List Level) (places : List Place) (p : Place) → AreSatisfied shorts clauses levels places →
    ((v : Level) → slice_get levels 1 ≡ Some v → v.start ≤ length places) → AreSatisfied shorts clauses levels (places ++ p ∷ [])
satisfied_push shorts clauses levels places p a within = record {
  now = λ r there. true_left places (p ∷ []) (literals_at clauses r) (a.now r there);
  below = λ r v there e.
      subst (λ ps. HasTrue (literals_of ps) (literals_at clauses r)) (sym (take-append-le v.start places (p ∷ []) (within v e))) (a.below r v there e);
}

pub satisfied_level : (shorts : List ℕ) (clauses : List Held) (levels : List Level) (places : List Place) (v : Level) → AreSatisfied shorts clauses levels places →
    v.start ≡ length places → AreSatisfied shorts clauses (levels ++ v ∷ []) places
satisfied_level shorts clauses levels places v a at = record {
  now = a.now;
  below = λ r u there e. elim (get_push_cases levels v u 1 e) [
    | inl old ↦ a.below r u there old
    | inr last ↦
        subst (λ ps. HasTrue (literals_of ps) (literals_at clauses r))
        (sym (take_all u.start places (let h : u.start ≡ length places = ap (λ (x : Level). x.start) (sym last.1) ∙ at in omega (arith, h)))) (a.now r there)
  ];
}

pub satisfied_cut : (shorts : List ℕ) (clauses : List Held) (base n : ℕ) (levels : List Level) (places : List Place) (v : Level) →
    AreSatisfied shorts clauses levels places →
    AreBegun base levels places → 1 ≤ n → slice_get levels n ≡ Some v → AreSatisfied shorts clauses (take n levels) (take v.start places)
satisfied_cut shorts clauses base n levels places v a b one at = record {
  now = λ r there. front r there;
  below = λ r u there e.
      let (before, found) = get_take n levels 1 u e in
      let less = b.ascends 1 n u v (omega arith) before found at in
      subst (λ ps. HasTrue (literals_of ps) (literals_at clauses r)) (sym (take_front v.start u.start places (omega (arith, less)))) (a.below r u there found);
}
  where
    front : (r : ℕ) → Contains shorts r → HasTrue (literals_of (take v.start places)) (literals_at clauses r)
    front r there = elim (cases_eq 1 n) [
      | inl same ↦ a.below r v there (ap (slice_get levels) same ∙ at)
      | inr other ↦
          let (u, found) = some_at levels 1 (let h = get_within levels n v at in omega (arith, h, one)) in
          let less = b.ascends 1 n u v (omega arith) (omega (arith, one, λ (e : 1 ≡ n). other e)) found at in
          let t = a.below r u there found in
          record {
            literal = t.literal;
            stands = t.stands;
            holds = true_in_front u.start (take v.start places) t.literal
                (subst (λ ps. IsTrueOn (literals_of ps) t.literal) (sym (take_front v.start u.start places (omega (arith, less)))) t.holds);
          }
    ]
