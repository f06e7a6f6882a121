-- How far the trail goes back for a learnt clause.
use Rattle.std.proofs.Common.{◌≡◌, ◌≢◌, ℕ, ◌-◌, ◌<◌, ◌≤◌, arith, List, [], ◌∷◌, ◌++◌, length, take, refl, sym, ap, subst, ◌∙◌, inl, inr, ◌⊎◌, Some}
use Rattle.std.specs.Prelude.{Contains, slice_get, IsPermutation}
use Rattle.std.proofs.lemmas.Bool.{cases_lt}
use Rattle.std.proofs.lemmas.List.{length-take-le}
use Rattle.std.proofs.lemmas.List.Elements.{All-contains}
use Rattle.std.proofs.lemmas.List.Sorted.{IsPermutation-sym, Contains-permutation, length_permutation}
use Rattle.bs_clause.specs.Literal.{Literal, Clause, negation}
use Rattle.bs_watch.specs.declared.watch.Level.{Level}
use Rattle.bs_watch.specs.Trail.{IsTrueOn, IsFalseOn, IsOpenOn, IsConflict}
use Rattle.bs_watch.specs.Places.{Place, literals_of, AreApart, IsOnLevel}
use Rattle.bs_watch.specs.Scene.{IsWatchable}
use Rattle.bs_watch.specs.Choice.{AreHighest}
use Rattle.bs_watch.specs.Watch.{WatchState, AreLevelled, MayAttach}
use Rattle.bs_watch.proofs.Gets.{some_at, same_some, get_from_Contains, Contains_from_get, get_map_cases, get_map, get_take, take_get, get_within, get_left, get_last}
use Rattle.bs_watch.proofs.TableLemmas.{one_level}
use Rattle.bs_watch.proofs.Advancing.{true_in_front}
use Rattle.bs_watch.proofs.CallerLemmas.{cancelled_open, cancelled_keeps, highest_unit, may_attach_unit}
use Rattle.bs_watch.proofs.Literals.{negation-negation}
use Rattle.bs_solve_lemmas.proofs.Clauses.{all_from, contains_cases, nothing_in}
use Rattle.bs_solve_lemmas.specs.Reasons.{last_start}
use Rattle.bs_solve.specs.Begun.{AreBegun}
use Rattle.bs_solve.specs.Backjump.{IsBackLevel, IsLearntClause, IsOpenYet}
use Rattle.bs_solve.proofs.Begins.{last_level}
use Rattle.bs_solve.proofs.FirstLevels.{sole}

-- what was false when a level began is on a lower level
pub false_below : (places : List Place) (levels : List Level) (j : ℕ) (v : Level) (m : Literal) → AreLevelled places levels → slice_get levels j ≡ Some v →
    IsFalseOn (literals_of (take v.start places)) m → (i : ℕ) × IsOnLevel places m i × (i ≤ j)
false_below places levels j v m a at lost =
    let (k, found) = get_from_Contains (literals_of (take v.start places)) (negation m) lost in
    let (p, there, is) = get_map_cases (λ (x : Place). x.literal) (take v.start places) k (negation m) found in
    let (before, in_all) = get_take v.start places k p there in
    (p.level, (p, record { at = k; there = in_all; same = ap (λ (x : Literal). x.variable) is }, refl), a.below j k v p at in_all before)

pub level_positive : (base : ℕ) (places : List Place) (levels : List Level) (m : Literal) (i : ℕ) → AreBegun base levels places → AreLevelled places levels →
    AreApart places → IsFalseOn (literals_of places) m → ((v : Level) → slice_get levels 0 ≡ Some v → ¬ IsFalseOn (literals_of (take v.start places)) m) →
    IsOnLevel places m i → 1 ≤ i
level_positive base places levels m i b a apart lost spared on =
    let (v, at) = some_at levels 0 (let some = b.some in omega (arith, some)) in
    let start = behind v at in
    let high = a.above 0 on.1.at v on.0 at on.1.there start in
    let is = on.2 in
    omega (arith, high, is)
  where
    behind : (v : Level) → slice_get levels 0 ≡ Some v → v.start ≤ on.1.at
    behind v at = elim (cases_lt on.1.at v.start) [
      | inl before ↦
          let (k, found) = get_from_Contains (literals_of places) (negation m) lost in
          let (p, there, is) = get_map_cases (λ (x : Place). x.literal) places k (negation m) found in
          let one : k ≡ on.1.at = apart.apart k on.1.at p on.0 there on.1.there (ap (λ (x : Literal). x.variable) is ∙ sym on.1.same) in
          absurd (spared v at (Contains_from_get (literals_of (take v.start places)) k (negation m)
          (get_map (λ (x : Place). x.literal) (take v.start places) k p (take_get v.start places k p (omega (arith, one, before)) there) ∙ ap Some is)))
      | inr later ↦ later
    ]

-- ---- the first literal

pub point_level : (base : ℕ) (w : WatchState) (lits : Clause) (s : IsLearntClause base w lits) → AreLevelled w.trail.places w.levels →
    IsOnLevel w.trail.places (negation s.point.place.literal) (length w.levels)
point_level base w lits s a =
    let (v, at, start, low, last) = last_level base w.levels w.trail.places s.begun s.deep in
    let high = a.above (length w.levels - 1) s.point.at v s.point.place at s.point.there (let h = s.point.low in omega (arith, h, start)) in
    let few = a.few s.point.at s.point.place s.point.there in
    let deep = s.deep in
    (s.point.place, record { at = s.point.at; there = s.point.there; same = refl }, omega (arith, high, few, deep))

-- another literal is on a lower level
pub other_level : (base : ℕ) (w : WatchState) (lits : Clause) (s : IsLearntClause base w lits) → AreLevelled w.trail.places w.levels →
    AreApart w.trail.places → (m : Literal) → Contains lits m →
    IsFalseOn (literals_of (take (last_start w.levels) w.trail.places)) m → (i : ℕ) × IsOnLevel w.trail.places m i × (1 ≤ i) × (i < length w.levels)
other_level base w lits s a apart m in_lits lost =
    let (v, at, start, low, last) = last_level base w.levels w.trail.places s.begun s.deep in
    let (i, on, high) = false_below w.trail.places w.levels (length w.levels - 1) v m a at
    (subst (λ n. IsFalseOn (literals_of (take n w.trail.places)) m) start lost) in
    let deep = s.deep in
    let lost_now : IsFalseOn (literals_of w.trail.places) m = true_in_front (last_start w.levels) w.trail.places (negation m) lost in (
      i,
      on,
      level_positive base w.trail.places w.levels m i s.begun a apart lost_now
          (λ x at_x. All-contains (λ l. ¬ IsFalseOn (literals_of (take x.start w.trail.places)) l) lits m (s.spared x at_x) in_lits) on,
      omega (arith, high, deep),
    )

pub all_lost : (base : ℕ) (w : WatchState) (lits : Clause) → IsLearntClause base w lits → IsConflict (literals_of w.trail.places) lits
all_lost base w lits s = all_from (IsFalseOn (literals_of w.trail.places)) lits (λ m there.
    elim (All-contains (λ x. (x ≡ negation s.point.place.literal) ⊎ IsFalseOn (literals_of (take (last_start w.levels) w.trail.places)) x) lits m
    s.point.others there) [
      | inl same ↦
          subst (IsFalseOn (literals_of w.trail.places)) (sym same)
          (subst (Contains (literals_of w.trail.places)) (sym (negation-negation s.point.place.literal))
          (Contains_from_get (literals_of w.trail.places) s.point.at s.point.place.literal
          (get_map (λ (x : Place). x.literal) w.trail.places s.point.at s.point.place s.point.there)))
      | inr lost ↦ true_in_front (last_start w.levels) w.trail.places (negation m) lost
    ])

-- the literal of the last level has come first
pub first_is : (base : ℕ) (w : WatchState) (lits c : Clause) (s : IsLearntClause base w lits) → AreLevelled w.trail.places w.levels → AreApart w.trail.places →
    IsPermutation lits c → AreHighest w.trail.places c → (x : Literal) → slice_get c 0 ≡ Some x → x ≡ negation s.point.place.literal
first_is base w lits c s a apart same h x at =
    let u : Literal = negation s.point.place.literal in
    let in_lits : Contains lits x = Contains-permutation c lits x (IsPermutation-sym lits c same) (Contains_from_get c 0 x at) in
    elim (All-contains (λ y. (y ≡ u) ⊎ IsFalseOn (literals_of (take (last_start w.levels) w.trail.places)) y) lits x s.point.others in_lits) [
      | inl is ↦ is
      | inr lost ↦
          let (i, on, low, high) = other_level base w lits s a apart x in_lits lost in
          let u_in : Contains c u = Contains-permutation lits c u same (Contains_from_get lits 0 u s.point.first) in
          let (k, at_u) = get_from_Contains c u u_in in
          let (u_lost, lower) = h.first k x u at at_u (true_in_front (last_start w.levels) w.trail.places (negation x) lost) in
          absurd (let h2 = lower i (length w.levels) on (point_level base w lits s a) in omega (arith, h2, high))
    ]

-- ---- the level to which the trail goes back

pub record Back (w : WatchState) (lits c : Clause) (u : Literal) (n : ℕ) (v : Level) : Type 0 where
  pub first : slice_get c 0 ≡ Some u
  pub one : 1 ≤ n
  pub high : n < length w.levels
  pub at : slice_get w.levels n ≡ Some v
  pub alone : (m : Literal) → Contains lits m → (m ≡ u) ⊎ IsFalseOn (literals_of (take v.start w.trail.places)) m
  pub lowest : (i : ℕ) (x : Level) → 1 ≤ i → i < n → slice_get w.levels i ≡ Some x → IsOpenYet (take x.start w.trail.places) lits u
  pub open_u : IsOpenOn (literals_of (take v.start w.trail.places)) u
  pub unit : length c < 2 → n ≡ 1
  pub second : (m : Literal) → slice_get c 1 ≡ Some m → IsOnLevel (take v.start w.trail.places) m n

pub back_short : (base : ℕ) (w : WatchState) (lits c : Clause) (n : ℕ) (s : IsLearntClause base w lits) → AreLevelled w.trail.places w.levels →
    AreApart w.trail.places →
    IsPermutation lits c → IsBackLevel w.trail.places c n → length c < 2 → (v : Level) × Back w lits c (negation s.point.place.literal) n v
back_short base w lits c n s a apart same b few =
    let u : Literal = negation s.point.place.literal in
    let count = length_permutation lits c same in
    let one : n ≡ 1 = b.short few in
    let deep = s.deep in
    let (v, at) = some_at w.levels 1 (omega (arith, deep)) in
    let only : lits ≡ u ∷ [] = sole lits u s.point.first (omega (arith, count, few)) in
    let (x, at_x) = some_at c 0 (let h = get_within lits 0 u s.point.first in omega (arith, h, count)) in
    let in_lits : Contains lits x = Contains-permutation c lits x (IsPermutation-sym lits c same) (Contains_from_get c 0 x at_x) in
    let x_is : u ≡ x = elim (contains_cases u [] x (subst (λ xs. Contains xs x) only in_lits)) [ inl is ↦ is | inr none ↦ absurd (nothing_in x none) ] in (
      v,
      record {
        first = at_x ∙ ap Some (sym x_is);
        one = omega (arith, one);
        high = omega (arith, one, deep);
        at = ap (slice_get w.levels) one ∙ at;
        alone = λ m there. elim (contains_cases u [] m (subst (λ xs. Contains xs m) only there))
            [ inl is ↦ inl (sym is) | inr none ↦ absurd (nothing_in m none) ];
        lowest = λ i y low before e. absurd (omega (arith, low, before, one));
        unit = b.short;
        open_u = cancelled_open w.trail.places w.levels 1 v u (length w.levels) a apart at (point_level base w lits s a) (omega (arith, deep));
        second = λ m e. absurd (let h = get_within c 1 m e in omega (arith, h, few));
      },
    )

pub back_long : (base : ℕ) (w : WatchState) (lits c : Clause) (n : ℕ) (s : IsLearntClause base w lits) → AreLevelled w.trail.places w.levels →
    AreApart w.trail.places →
    IsPermutation lits c → IsBackLevel w.trail.places c n → IsWatchable w.trail.vars c → (v : Level) × Back w lits c (negation s.point.place.literal) n v
back_long base w lits c n s a apart same b can =
    let u : Literal = negation s.point.place.literal in
    let two = can.long in
    let h = b.highest two in
    let (x, at_x) = some_at c 0 (omega (arith, two)) in
    let x_is : x ≡ u = first_is base w lits c s a apart same h x at_x in
    let first : slice_get c 0 ≡ Some u = at_x ∙ ap Some x_is in
    let (m, at_m) = some_at c 1 (omega (arith, two)) in
    let m_other : m ≢ u = λ e. (let clash = can.apart 1 0 m u at_m first (ap (λ (y : Literal). y.variable) e) in omega (arith, clash)) in
    let m_in : Contains lits m = Contains-permutation c lits m (IsPermutation-sym lits c same) (Contains_from_get c 1 m at_m) in
    let m_lost : IsFalseOn (literals_of (take (last_start w.levels) w.trail.places)) m =
    elim (All-contains (λ y. (y ≡ u) ⊎ IsFalseOn (literals_of (take (last_start w.levels) w.trail.places)) y) lits m s.point.others m_in) [
      | inl is ↦ absurd (m_other is)
      | inr lost ↦ lost
    ] in
    let (i, on_i, low, high) = other_level base w lits s a apart m m_in m_lost in
    let on_m : IsOnLevel w.trail.places m n = b.on m at_m in
    let n_is : n ≡ i = one_level w.trail.places m n i apart on_m on_i in
    let (v, at) = some_at w.levels n (omega (arith, n_is, high)) in
    let unit = highest_unit w.trail.places w.levels n v c m a apart at h at_m (true_in_front (last_start w.levels) w.trail.places (negation m) m_lost) on_m in (
      v,
      record {
        first = first;
        one = omega (arith, n_is, low);
        high = omega (arith, n_is, high);
        at = at;
        alone = λ y there.
            let (k, at_y) = get_from_Contains c y (Contains-permutation lits c y same there) in
            elim (cases_lt k 1) [
              | inl zeroth ↦ inl (same_some y u (sym at_y ∙ ap (slice_get c) (let e : k ≡ 0 = omega (arith, zeroth) in e) ∙ first))
              | inr later ↦ inr (unit k y later at_y)
            ];
        lowest = λ j y one before e. record {
          literal = m;
          stands = m_in;
          other = m_other;
          not_false = λ lost.
              let (l, on_l, below) = false_below w.trail.places w.levels j y m a e lost in
              let same_level = one_level w.trail.places m n l apart on_m on_l in
              omega (arith, same_level, below, before);
        };
        unit = b.short;
        open_u = cancelled_open w.trail.places w.levels n v u (length w.levels) a apart at (point_level base w lits s a) (omega (arith, n_is, high));
        second = λ y e.
            subst (λ z. IsOnLevel (take v.start w.trail.places) z n) (same_some m y (sym at_m ∙ e))
            (cancelled_keeps w.trail.places w.levels n v m n a at on_m (omega arith));
      },
    )

-- the clause may be attached once its first literal has been assigned
pub may_attach_back : (old w : WatchState) (lits c : Clause) (u : Literal) (n r : ℕ) (v : Level) → Back old lits c u n v → IsWatchable old.trail.vars c →
    AreLevelled w.trail.places w.levels → AreApart w.trail.places → w.levels ≡ take n old.levels →
    w.trail.places ≡ take v.start old.trail.places ++ record { literal = u; reason = Some r; level = length (take n old.levels) } ∷ [] → MayAttach w c
may_attach_back old w lits c u n r v b can a apart levels places =
    let p : Place = record { literal = u; reason = Some r; level = length (take n old.levels) } in
    let two = can.long in
    let (m, at_m) = some_at c 1 (omega (arith, two)) in
    let on = b.second m at_m in
    let high = b.high in
    let count : length w.levels ≡ n = ap length levels ∙ length-take-le n old.levels (omega (arith, high)) in
    may_attach_unit w c u m a apart b.first at_m
    (subst (λ ps. IsTrueOn (literals_of ps) u) (sym places)
    (Contains_from_get (literals_of (take v.start old.trail.places ++ p ∷ [])) (length (take v.start old.trail.places)) u
    (get_map (λ (x : Place). x.literal) (take v.start old.trail.places ++ p ∷ []) (length (take v.start old.trail.places)) p
    (get_last (take v.start old.trail.places) p))))
    (subst (IsOnLevel w.trail.places m) (sym count)
    (subst (λ ps. IsOnLevel ps m n) (sym places)
    (on.0, record { at = on.1.at; there = get_left (take v.start old.trail.places) (p ∷ []) on.1.at on.0 on.1.there; same = on.1.same }, on.2)))
