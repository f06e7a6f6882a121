-- How the first level grows.
use Rattle.std.proofs.Common.{◌≡◌, ℕ, ◌+◌, ◌<◌, arith, Bool, true, false, not, List, [], ◌∷◌, ◌++◌, length, take, refl, sym, ap, subst, ◌∙◌, inl, inr, ◌⊎◌, Some, None}
use Rattle.std.specs.Prelude.{All, Contains, slice_get, is_some}
use Rattle.std.proofs.lemmas.Bool.{cases_lt, cases_Bool, false≢true}
use Rattle.std.proofs.lemmas.List.{length_push, take_at, append-nil, append_assoc}
use Rattle.std.proofs.lemmas.List.Elements.{All-contains, All-cons, All-nil}
use Rattle.bs_clause.specs.Literal.{Literal, Clause, has_literal}
use Rattle.bs_clause.proofs.Literals.{Contains-from_has, has-from_Contains}
use Rattle.bs_watch.proofs.Guards.{consistent}
use Rattle.bs_arena.specs.Arena.{Held, held_at, literals_at}
use Rattle.bs_watch.specs.Trail.{IsTrueOn, IsFalseOn, IsOpenOn, IsValueOn, IsConflict, Implies}
use Rattle.bs_watch.specs.Places.{Place, AreApart, literals_of}
use Rattle.bs_watch.specs.Look.{HasTrue}
use Rattle.bs_watch.specs.Tables.{HasValues, value_of}
use Rattle.bs_watch.specs.Scene.{Grows, IsImplied}
use Rattle.bs_watch.specs.Watch.{WatchState, KeepsService, assigned}
use Rattle.bs_watch.proofs.Advancing.{grows_refl, grows_trans, shuffled_refl, stays_true, true_in_front}
use Rattle.bs_watch.proofs.Gets.{none_is_not_some, same_some, get_push_cases, get_within, get_take, take_get, get_from_Contains, Contains_from_get}
use Rattle.bs_solve_lemmas.proofs.Clauses.{all_from, contains_first, contains_cases, nothing_in}
use Rattle.bs_solve.specs.FirstLevel.{HasAssumed, IsAssumed, HasGrown, IsShortAssigned, AllSatisfied}
use Rattle.bs_solve.proofs.Entries.{append_cases}

-- ---- assumptions

last_literal : (ps : List Place) (p : Place) → slice_get (literals_of (ps ++ p ∷ [])) (length ps) ≡ Some p.literal
last_literal [] p = refl
last_literal (q ∷ ps) p = last_literal ps p

pub assumed_none : (w : WatchState) (a : Clause) → HasAssumed w w a
assumed_none w a = record {
  more = [];
  places = sym (append-nil w.trail.places);
  vars = refl;
  levels = refl;
  lists = refl;
  free = All-nil (λ (p : Place). (p.reason ≡ None) × Contains a p.literal);
  serves = record { keeps = λ clauses s. s };
}

pub assumed_one : (w new : WatchState) (l : Literal) → new ≡ assigned w l None → KeepsService w new → HasAssumed w new (l ∷ [])
assumed_one w new l is serves =
    let p : Place = record { literal = l; reason = None; level = length w.levels } in
    record {
      more = p ∷ [];
      places = ap (λ (x : WatchState). x.trail.places) is;
      vars = ap (λ (x : WatchState). x.trail.vars) is;
      levels = ap (λ (x : WatchState). x.levels) is;
      lists = ap (λ (x : WatchState). x.lists) is;
      free = All-cons (λ (q : Place). (q.reason ≡ None) × Contains (l ∷ []) q.literal) p [] (refl, contains_first l [])
          (All-nil (λ (q : Place). (q.reason ≡ None) × Contains (l ∷ []) q.literal));
      serves = serves;
    }

pub one_is_true : (w new : WatchState) (l : Literal) → new ≡ assigned w l None → IsTrueOn (literals_of new.trail.places) l
one_is_true w new l is =
    subst (λ ps. IsTrueOn (literals_of ps) l) (sym (ap (λ (x : WatchState). x.trail.places) is))
    (Contains_from_get (literals_of (w.trail.places ++ record { literal = l; reason = None; level = length w.levels } ∷ [])) (length w.trail.places) l
    (last_literal w.trail.places (record { literal = l; reason = None; level = length w.levels })))

pub assumed_trans : (a b c : WatchState) (xs : Clause) (l : Literal) → HasAssumed a b xs → Contains xs l → HasAssumed b c (l ∷ []) → HasAssumed a c xs
assumed_trans a b c xs l x there y = record {
  more = x.more ++ y.more;
  places = y.places ∙ ap (λ ps. ps ++ y.more) x.places ∙ append_assoc a.trail.places x.more y.more;
  vars = y.vars ∙ x.vars;
  levels = y.levels ∙ x.levels;
  lists = y.lists ∙ x.lists;
  free = all_from (λ (p : Place). (p.reason ≡ None) × Contains xs p.literal) (x.more ++ y.more) (λ p in_both. elim (append_cases x.more y.more p in_both) [
    | inl old ↦ All-contains (λ (q : Place). (q.reason ≡ None) × Contains xs q.literal) x.more p x.free old
    | inr new ↦
        let f = All-contains (λ (q : Place). (q.reason ≡ None) × Contains (l ∷ []) q.literal) y.more p y.free new in
        (f.0, (elim (contains_cases l [] p.literal f.1) [ inl is ↦ subst (Contains xs) is there | inr none ↦ absurd (nothing_in p.literal none) ]))
  ]);
  serves = record { keeps = λ clauses s. y.serves.keeps clauses (x.serves.keeps clauses s) };
}

pub assumed_still : (a b : WatchState) (xs : Clause) (l : Literal) → HasAssumed a b xs → IsTrueOn (literals_of a.trail.places) l →
    IsTrueOn (literals_of b.trail.places) l
assumed_still a b xs l h t =
    subst (λ ps. IsTrueOn (literals_of ps) l) (sym h.places) (true_in_front (length a.trail.places) (a.trail.places ++ h.more) l
    (subst (λ ps. IsTrueOn (literals_of ps) l) (sym (take_at a.trail.places h.more (length a.trail.places) refl)) t))

pub assumed_next : (a b : WatchState) (xs : Clause) (i : ℕ) (l : Literal) → HasAssumed a b (l ∷ []) → All (IsTrueOn (literals_of a.trail.places)) (take i xs) →
    slice_get xs i ≡ Some l → IsTrueOn (literals_of b.trail.places) l → All (IsTrueOn (literals_of b.trail.places)) (take (i + 1) xs)
assumed_next a b xs i l h all at here = all_from (IsTrueOn (literals_of b.trail.places)) (take (i + 1) xs) (λ m there.
    let (k, found) = get_from_Contains (take (i + 1) xs) m there in
    let (before, in_all) = get_take (i + 1) xs k m found in
    elim (cases_lt k i) [
      | inl early ↦ assumed_still a b (l ∷ []) m h (All-contains (IsTrueOn (literals_of a.trail.places)) (take i xs) m all
          (Contains_from_get (take i xs) k m (take_get i xs k m early in_all)))
      | inr late ↦
          let same : k ≡ i = omega (arith, before, late) in
          subst (IsTrueOn (literals_of b.trail.places)) (same_some l m (sym at ∙ ap (slice_get xs) (sym same) ∙ in_all)) here
    ])

pub assumed_value : (w : WatchState) (l : Literal) (is_true : Bool) → IsValueOn (literals_of w.trail.places) l (Some is_true) → IsAssumed w l (not is_true)
assumed_value w l true v = v
assumed_value w l false v = v

-- ---- growing

pub service_trans : (a b c : WatchState) → KeepsService a b → KeepsService b c → KeepsService a c
service_trans a b c x y = record { keeps = λ clauses s. y.keeps clauses (x.keeps clauses s) }

pub service_refl : (a : WatchState) → KeepsService a a
service_refl a = record { keeps = λ clauses s. s }

pub grown_refl : (clauses : List Held) (w : WatchState) → HasGrown clauses w w
grown_refl clauses w = record { vars = refl; levels = refl; lists = refl; grows = grows_refl clauses (length w.levels) w.trail.places; serves = service_refl w }

pub grown_trans : (clauses : List Held) (a b c : WatchState) → HasGrown clauses a b → HasGrown clauses b c → HasGrown clauses a c
grown_trans clauses a b c x y = record {
  vars = y.vars ∙ x.vars;
  levels = y.levels ∙ x.levels;
  lists = y.lists ∙ x.lists;
  grows = grows_trans clauses clauses (length a.levels) a.trail.places b.trail.places c.trail.places (shuffled_refl clauses) x.grows
      (subst (λ n. Grows clauses n b.trail.places c.trail.places) (ap length x.levels) y.grows);
  serves = service_trans a b c x.serves y.serves;
}

-- one more place that a live clause implies
pub grows_one : (clauses : List Held) (level : ℕ) (places : List Place) (p : Place) → p.level ≡ level → IsImplied clauses places p →
    Grows clauses level places (places ++ p ∷ [])
grows_one clauses level places p at f = record {
  longer = let h = length_push places p in omega (arith, h);
  front = take_at places (p ∷ []) (length places) refl;
  implied = λ k q low e. elim (get_push_cases places p q k e) [
    | inl there ↦ absurd (let h = get_within places k q there in omega (arith, h, low))
    | inr last ↦
        subst (λ ps. IsImplied clauses ps q) (sym (take_at places (p ∷ []) k (sym last.0))) (subst (IsImplied clauses places) last.1 f)
  ];
  levels = λ k q low e. elim (get_push_cases places p q k e) [
    | inl there ↦ absurd (let h = get_within places k q there in omega (arith, h, low))
    | inr last ↦ ap (λ (x : Place). x.level) (sym last.1) ∙ at
  ];
}

-- a clause of one literal
pub sole : (c : Clause) (l : Literal) → slice_get c 0 ≡ Some l → length c < 2 → c ≡ l ∷ []
sole [] l e few = absurd (none_is_not_some l e)
sole (x ∷ []) l e few = ap (λ y. y ∷ []) (same_some x l e)
sole (x ∷ y ∷ c) l e few = absurd (omega (arith, few))

pub sole_implies : (trail : List Literal) (c : Clause) (l : Literal) → c ≡ l ∷ [] → IsOpenOn trail l → Implies trail c l
sole_implies trail c l is open_l = record {
  stands = subst (λ xs. Contains xs l) (sym is) (contains_first l []);
  unassigned = open_l;
  others = subst (All (λ m. (m ≡ l) ⊎ IsFalseOn trail m)) (sym is) (all_from (λ m. (m ≡ l) ⊎ IsFalseOn trail m) (l ∷ []) (λ m there.
      elim (contains_cases l [] m there) [ inl same ↦ inl (sym same) | inr none ↦ absurd (nothing_in m none) ]));
}

pub satisfied_open : (clauses : List Held) (w new : WatchState) (r : ℕ) (l : Literal) → new ≡ assigned w l (Some r) → KeepsService w new →
    is_some (held_at clauses r) ≡ true → literals_at clauses r ≡ l ∷ [] → IsOpenOn (literals_of w.trail.places) l →
    HasGrown clauses w new × HasTrue (literals_of new.trail.places) (literals_at clauses r)
satisfied_open clauses w new r l is serves live sole_l open_l =
    let p : Place = record { literal = l; reason = Some r; level = length w.levels } in
    let places : new.trail.places ≡ w.trail.places ++ p ∷ [] = ap (λ (x : WatchState). x.trail.places) is in (
      record {
        vars = ap (λ (x : WatchState). x.trail.vars) is;
        levels = ap (λ (x : WatchState). x.levels) is;
        lists = ap (λ (x : WatchState). x.lists) is;
        grows = subst (Grows clauses (length w.levels) w.trail.places) (sym places) (grows_one clauses (length w.levels) w.trail.places p refl (record {
          by = r;
          reason = refl;
          live = live;
          implies = sole_implies (literals_of w.trail.places) (literals_at clauses r) l sole_l open_l;
        }));
        serves = serves;
      },
      record {
        literal = l;
        stands = subst (λ xs. Contains xs l) (sym sole_l) (contains_first l []);
        holds = subst (λ ps. IsTrueOn (literals_of ps) l) (sym places)
            (Contains_from_get (literals_of (w.trail.places ++ p ∷ [])) (length w.trail.places) l (last_literal w.trail.places p));
      },
    )

pub satisfied_value : (clauses : List Held) (w : WatchState) (r : ℕ) (l : Literal) (is_true : Bool) → literals_at clauses r ≡ l ∷ [] →
    IsValueOn (literals_of w.trail.places) l (Some is_true) → IsShortAssigned clauses w r (not is_true)
satisfied_value clauses w r l true is v = record { literal = l; stands = subst (λ xs. Contains xs l) (sym is) (contains_first l []); holds = v }
satisfied_value clauses w r l false is v =
    subst (IsConflict (literals_of w.trail.places)) (sym is) (all_from (IsFalseOn (literals_of w.trail.places)) (l ∷ []) (λ m there.
    elim (contains_cases l [] m there) [ inl same ↦ subst (IsFalseOn (literals_of w.trail.places)) same v | inr none ↦ absurd (nothing_in m none) ]))

-- ---- the short clauses

pub satisfied_still : (clauses : List Held) (a b : WatchState) (shorts : List ℕ) → HasGrown clauses a b → AllSatisfied clauses a shorts → AllSatisfied clauses b shorts
satisfied_still clauses a b shorts g all = record {
  each = λ r there.
      let t = all.each r there in
      record { literal = t.literal; stands = t.stands; holds = stays_true clauses (length a.levels) a.trail.places b.trail.places t.literal g.grows t.holds };
}

pub satisfied_next : (clauses : List Held) (a b : WatchState) (shorts : List ℕ) (i r : ℕ) → HasGrown clauses a b → AllSatisfied clauses a (take i shorts) →
    slice_get shorts i ≡ Some r → HasTrue (literals_of b.trail.places) (literals_at clauses r) → AllSatisfied clauses b (take (i + 1) shorts)
satisfied_next clauses a b shorts i r g all at here = record {
  each = λ q there.
      let (k, found) = get_from_Contains (take (i + 1) shorts) q there in
      let (before, in_all) = get_take (i + 1) shorts k q found in
      elim (cases_lt k i) [
        | inl early ↦ (satisfied_still clauses a b (take i shorts) g all).each q (Contains_from_get (take i shorts) k q (take_get i shorts k q early in_all))
        | inr late ↦
            let same : k ≡ i = omega (arith, before, late) in
            subst (λ x. HasTrue (literals_of b.trail.places) (literals_at clauses x))
            (same_some r q (sym at ∙ ap (slice_get shorts) (sym same) ∙ in_all)) here
      ];
}

-- ---- values

pub open_is : (w : WatchState) (l : Literal) → IsOpenOn (literals_of w.trail.places) l → false ≡ has_literal (literals_of w.trail.places) l
open_is w l o = elim (cases_Bool (has_literal (literals_of w.trail.places) l)) [
  | inl there ↦ absurd (o.0 (Contains-from_has (literals_of w.trail.places) l there))
  | inr none ↦ sym none
]

pub value_is : (w : WatchState) (l : Literal) (is_true : Bool) → AreApart w.trail.places → IsValueOn (literals_of w.trail.places) l (Some is_true) →
    is_true ≡ has_literal (literals_of w.trail.places) l
value_is w l true apart v = sym (has-from_Contains (literals_of w.trail.places) l v)
value_is w l false apart v = elim (cases_Bool (has_literal (literals_of w.trail.places) l)) [
  | inl there ↦ absurd (consistent w.trail.places apart l (Contains-from_has (literals_of w.trail.places) l there) v)
  | inr none ↦ sym none
]

-- the value that stands by a literal's code
pub value_by_code : (values : List Bool) (ls : List Literal) (l : Literal) → HasValues values ls → value_of values l ≡ has_literal ls l
value_by_code values ls l h = elim (cases_Bool (value_of values l)) as (λ _. value_of values l ≡ has_literal ls l) [
  | inl on ↦ on ∙ sym (has-from_Contains ls l (h.holds l on))
  | inr off ↦ elim (cases_Bool (has_literal ls l)) as (λ _. value_of values l ≡ has_literal ls l) [
    | inl has ↦ absurd (false≢true (sym off ∙ h.noted l (Contains-from_has ls l has)))
    | inr has ↦ off ∙ sym has
  ]
]
