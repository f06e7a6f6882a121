-- The levels of a trail, and what holds of every watch after each call.
use Rattle.std.proofs.Common.{◌≡◌, ℕ, zero, suc, ◌+◌, ◌*◌, ◌^◌, ◌<◌, ◌≤◌, List, [], ◌∷◌, ◌++◌, map, length, take, refl, sym, ap, subst, ◌∙◌, inl, inr}
use Rattle.std.proofs.Common.{◌⊎◌, Some, arith}
use Rattle.std.specs.Prelude.{slice_get}
use Rattle.std.proofs.lemmas.Bool.{cases_lt}
use Rattle.std.proofs.lemmas.List.{length_push, length-map}
use Rattle.bs_arena.specs.Arena.{Held}
use Rattle.bs_watch.specs.declared.watch.Level.{Level}
use Rattle.bs_watch.specs.declared.lists.Watcher.{Watcher}
use Rattle.bs_watch.specs.Places.{Place, TrailState, renamed_place}
use Rattle.bs_watch.specs.Scene.{Grows}
use Rattle.bs_watch.specs.Watch.{WatchState, IsWatch, AreLevelled, HasGoneBack, decided, grown, renamed_watch}
use Rattle.bs_watch.proofs.Gets.{none_is_not_some, get_left, get_take, take_get, get_push_cases, get_within, get_map_cases}

pub length_front : {X : Type 0} (n : ℕ) (xs : List X) → n ≤ length xs → length (take n xs) ≡ n
length_front zero xs h = refl
length_front (suc n) [] h = absurd (omega (arith, h))
length_front (suc n) (x ∷ xs) h = ap suc (length_front n xs (omega (arith, h)))

length_front_le : {X : Type 0} (n : ℕ) (xs : List X) → length (take n xs) ≤ length xs
length_front_le zero xs = omega arith
length_front_le (suc n) [] = omega arith
length_front_le (suc n) (x ∷ xs) = let h = length_front_le n xs in omega (arith, h)

-- ---- the levels of places

pub none_levelled : AreLevelled [] []
none_levelled = record {
  few = λ k p e. absurd (none_is_not_some p e);
  above = λ j k v p a e h. absurd (none_is_not_some p e);
  below = λ j k v p a e h. absurd (none_is_not_some p e);
}

pub decided_levelled : (places : List Place) (levels : List Level) (v : Level) → v.start ≡ length places → AreLevelled places levels →
    AreLevelled places (levels ++ v ∷ [])
decided_levelled places levels v at a = record {
  few = λ k p e. let h = a.few k p e in omega (arith, h, length_push levels v);
  above = λ j k u p e there h. elim (get_push_cases levels v u j e) [
    | inl was ↦ a.above j k u p was there h
    | inr last ↦
        let start : u.start ≡ length places = ap (λ (x : Level). x.start) (sym last.1) ∙ at in
        let inside = get_within places k p there in
        absurd (omega (arith, start, inside, h))
  ];
  below = λ j k u p e there h. elim (get_push_cases levels v u j e) [
    | inl was ↦ a.below j k u p was there h
    | inr last ↦ let few = a.few k p there in omega (arith, few, last.0)
  ];
}

pub assigned_levelled : (places : List Place) (levels : List Level) (p : Place) → p.level ≡ length levels →
    ((j : ℕ) (v : Level) → slice_get levels j ≡ Some v → v.start ≤ length places) → AreLevelled places levels → AreLevelled (places ++ p ∷ []) levels
assigned_levelled places levels p at begun a = record {
  few = λ k q e. elim (get_push_cases places p q k e) [
    | inl was ↦ a.few k q was
    | inr last ↦ let same : q.level ≡ p.level = ap (λ (x : Place). x.level) (sym last.1) in omega (arith, same, at)
  ];
  above = λ j k v q e there h. elim (get_push_cases places p q k there) [
    | inl was ↦ a.above j k v q e was h
    | inr last ↦
        let same : q.level ≡ p.level = ap (λ (x : Place). x.level) (sym last.1) in
        let inside = get_within levels j v e in
        omega (arith, same, at, inside)
  ];
  below = λ j k v q e there h. elim (get_push_cases places p q k there) [
    | inl was ↦ a.below j k v q e was h
    | inr last ↦ let low = begun j v e in absurd (omega (arith, low, h, last.0))
  ];
}

pub cancelled_levelled : (places : List Place) (levels : List Level) (level : ℕ) (begun : Level) → slice_get levels level ≡ Some begun →
    AreLevelled places levels → AreLevelled (take begun.start places) (take level levels)
cancelled_levelled places levels level begun at a = record {
  few = λ k p e.
      let (before, was) = get_take begun.start places k p e in
      let low = a.below level k begun p at was before in
      let inside = get_within levels level begun at in
      let long : length (take level levels) ≡ level = length_front level levels (omega (arith, inside)) in
      omega (arith, low, long);
  above = λ j k v p e there h. a.above j k v p (get_take level levels j v e).1 (get_take begun.start places k p there).1 h;
  below = λ j k v p e there h. a.below j k v p (get_take level levels j v e).1 (get_take begun.start places k p there).1 h;
}

pub grown_levelled : (clauses : List Held) (old new : List Place) (levels : List Level) → Grows clauses (length levels) old new →
    ((j : ℕ) (v : Level) → slice_get levels j ≡ Some v → v.start ≤ length old) → AreLevelled old levels → AreLevelled new levels
grown_levelled clauses old new levels g begun a = record {
  few = λ k p e. elim (cases_lt k (length old)) [
    | inl early ↦ a.few k p (was k p early e)
    | inr late ↦ let h = g.levels k p late e in omega (arith, h)
  ];
  above = λ j k v p e there h. elim (cases_lt k (length old)) [
    | inl early ↦ a.above j k v p e (was k p early there) h
    | inr late ↦
        let at = g.levels k p late there in
        let inside = get_within levels j v e in
        omega (arith, at, inside)
  ];
  below = λ j k v p e there h. elim (cases_lt k (length old)) [
    | inl early ↦ a.below j k v p e (was k p early there) h
    | inr late ↦ let low = begun j v e in absurd (omega (arith, low, late, h))
  ];
}
  where
    was : (k : ℕ) (p : Place) → k < length old → slice_get new k ≡ Some p → slice_get old k ≡ Some p
    was k p early e = ap (λ ps. slice_get ps k) (sym g.front) ∙ take_get (length old) new k p early e

pub mapped_levelled : (names : List (ℕ × ℕ)) (places : List Place) (levels : List Level) → AreLevelled places levels →
    AreLevelled (map (renamed_place names) places) levels
mapped_levelled names places levels a = record {
  few =
      λ k q e. let (p, there, is) =
      get_map_cases (renamed_place names) places k q e in subst (λ n. n ≤ length levels) (ap (λ (x : Place). x.level) is) (a.few k p there);
  above =
      λ j k v q e at h. let (p, there, is) =
      get_map_cases (renamed_place names) places k q at in subst (λ n. j < n) (ap (λ (x : Place). x.level) is) (a.above j k v p e there h);
  below =
      λ j k v q e at h. let (p, there, is) =
      get_map_cases (renamed_place names) places k q at in subst (λ n. n ≤ j) (ap (λ (x : Place). x.level) is) (a.below j k v p e there h);
}

-- ---- what holds of every watch

pub new_watch : (w : WatchState) (vars capacity : ℕ) → vars < 2 ^ 30 → w.trail ≡ record { vars = vars; places = [] } → w.levels ≡ [] → w.head ≡ 0 →
    vars + 1 ≤ capacity → IsWatch w capacity
new_watch w vars capacity small trail levels head room = record {
  small = subst (λ n. n < 2 ^ 30) (sym (ap (λ (t : TrailState). t.vars) trail)) small;
  looked = omega (arith, head);
  begun = λ k v e. absurd (none_is_not_some v (ap (λ vs. slice_get vs k) (sym levels) ∙ e));
  ascends = λ i j u v before a b. absurd (none_is_not_some v (ap (λ vs. slice_get vs j) (sym levels) ∙ b));
  few = let none : length w.levels ≡ 0 = ap length levels in omega (arith, none);
  levelled = subst (λ (t : TrailState). AreLevelled t.places w.levels) (sym trail) (subst (AreLevelled []) (sym levels) none_levelled);
  room = let same : w.trail.vars ≡ vars = ap (λ (t : TrailState). t.vars) trail in omega (arith, same, room);
}

pub decided_watch : (w new : WatchState) (capacity after : ℕ) → IsWatch w capacity → length w.levels ≤ w.trail.vars → capacity ≤ after →
    new ≡ decided w → IsWatch new after
decided_watch w new capacity after is few more at = subst (λ u. IsWatch u after) (sym at) (record {
  small = is.small;
  looked = is.looked;
  begun = λ k v e. elim (get_push_cases w.levels (record { start = length w.trail.places; looked = w.head }) v k e) [
    | inl was ↦ is.begun k v was
    | inr last ↦ subst (λ (u : Level). (u.start ≤ length w.trail.places) × (u.looked ≤ u.start)) last.1 (omega arith, is.looked)
  ];
  ascends = λ i j u v before a b. elim (get_push_cases w.levels (record { start = length w.trail.places; looked = w.head }) v j b) [
    | inl was ↦ elim (get_push_cases w.levels (record { start = length w.trail.places; looked = w.head }) u i a) [
      | inl early ↦ is.ascends i j u v before early was
      | inr last ↦ let inside = get_within w.levels j v was in absurd (omega (arith, inside, before, last.0))
    ]
    | inr end' ↦
        let start : v.start ≡ length w.trail.places = ap (λ (x : Level). x.start) (sym end'.1) in
        elim (get_push_cases w.levels (record { start = length w.trail.places; looked = w.head }) u i a) [
          | inl early ↦ let low = (is.begun i u early).0 in omega (arith, low, start)
          | inr last ↦ absurd (omega (arith, before, last.0, end'.0))
        ]
  ];
  few = omega (arith, few, length_push w.levels (record { start = length w.trail.places; looked = w.head }));
  levelled = decided_levelled w.trail.places w.levels (record { start = length w.trail.places; looked = w.head }) refl is.levelled;
  room = omega (arith, is.room, more);
})

pub assigned_watch : (w new : WatchState) (capacity : ℕ) (p : Place) → IsWatch w capacity → p.level ≡ length w.levels →
    new ≡ record { trail = record { vars = w.trail.vars; places = w.trail.places ++ p ∷ [] }; levels = w.levels; head = w.head; lists = w.lists } →
    IsWatch new capacity
assigned_watch w new capacity p is level at = subst (λ u. IsWatch u capacity) (sym at) (record {
  small = is.small;
  looked = omega (arith, is.looked, length_push w.trail.places p);
  begun = λ k v e. let h = is.begun k v e in (omega (arith, h.0, length_push w.trail.places p), h.1);
  ascends = is.ascends;
  few = is.few;
  levelled = assigned_levelled w.trail.places w.levels p level (λ j v e. (is.begun j v e).0) is.levelled;
  room = is.room;
})

pub cancelled_watch : (w new : WatchState) (capacity after level : ℕ) (begun : Level) → IsWatch w capacity → slice_get w.levels level ≡ Some begun →
    capacity ≤ after →
    new.trail ≡ record { vars = w.trail.vars; places = take begun.start w.trail.places } → new.levels ≡ take level w.levels →
    new.head ≡ begun.looked → IsWatch new after
cancelled_watch w new capacity after level begun is at more trail levels head =
    let long : length (take begun.start w.trail.places) ≡ begun.start = length_front begun.start w.trail.places (is.begun level begun at).0 in
    let places : new.trail.places ≡ take begun.start w.trail.places = ap (λ (t : TrailState). t.places) trail in
    let as_long : length new.trail.places ≡ begun.start = ap length places ∙ long in
    let was : (k : ℕ) (v : Level) → slice_get new.levels k ≡ Some v → (k < level) × (slice_get w.levels k ≡ Some v) =
    λ k v e. get_take level w.levels k v (ap (λ vs. slice_get vs k) (sym levels) ∙ e) in
    record {
      small = subst (λ n. n < 2 ^ 30) (sym (ap (λ (t : TrailState). t.vars) trail)) is.small;
      looked = omega (arith, head, as_long, (is.begun level begun at).1);
      begun = λ k v e.
          let (before, there) = was k v e in
          let low = is.ascends k level v begun before there at in
          (omega (arith, low, as_long), (is.begun k v there).1);
      ascends = λ i j u v before a b. is.ascends i j u v before (was i u a).1 (was j v b).1;
      few =
          let fewer = length_front_le level w.levels in
          let same : length new.levels ≡ length (take level w.levels) = ap length levels in
          let vars : new.trail.vars ≡ w.trail.vars = ap (λ (t : TrailState). t.vars) trail in
          omega (arith, is.few, fewer, same, vars);
      levelled =
          subst (λ ps. AreLevelled ps new.levels) (sym places)
          (subst (AreLevelled (take begun.start w.trail.places)) (sym levels) (cancelled_levelled w.trail.places w.levels level begun at is.levelled));
      room = let vars : new.trail.vars ≡ w.trail.vars = ap (λ (t : TrailState). t.vars) trail in omega (arith, is.room, more, vars);
    }

pub propagated_watch : (w new : WatchState) (clauses : List Held) (capacity : ℕ) → IsWatch w capacity → new.trail.vars ≡ w.trail.vars →
    new.levels ≡ w.levels → new.head ≤ length new.trail.places →
    Grows clauses (length w.levels) w.trail.places new.trail.places → IsWatch new capacity
propagated_watch w new clauses capacity is vars levels head g =
    let was : (k : ℕ) (v : Level) → slice_get new.levels k ≡ Some v → slice_get w.levels k ≡ Some v = λ k v e. ap (λ vs. slice_get vs k) (sym levels) ∙ e in
    record {
      small = subst (λ n. n < 2 ^ 30) (sym vars) is.small;
      looked = head;
      begun = λ k v e. let h = is.begun k v (was k v e) in (omega (arith, h.0, g.longer), h.1);
      ascends = λ i j u v before a b. is.ascends i j u v before (was i u a) (was j v b);
      few = let same : length new.levels ≡ length w.levels = ap length levels in omega (arith, is.few, same, vars);
      levelled =
          subst (AreLevelled new.trail.places) (sym levels)
          (grown_levelled clauses w.trail.places new.trail.places w.levels g (λ j v e. (is.begun j v e).0) is.levelled);
      room = omega (arith, is.room, vars);
    }

pub renamed_is_watch : (w new : WatchState) (capacity : ℕ) (names : List (ℕ × ℕ)) → IsWatch w capacity → new ≡ renamed_watch names w → IsWatch new capacity
renamed_is_watch w new capacity names is at = subst (λ u. IsWatch u capacity) (sym at) (record {
  small = is.small;
  looked = omega (arith, is.looked, length-map w.trail.places (renamed_place names));
  begun = λ k v e. let h = is.begun k v e in (omega (arith, h.0, length-map w.trail.places (renamed_place names)), h.1);
  ascends = is.ascends;
  few = is.few;
  levelled = mapped_levelled names w.trail.places w.levels is.levelled;
  room = is.room;
})

pub grown_watch : (w new : WatchState) (capacity after : ℕ) → IsWatch w capacity → w.trail.vars + 1 < 2 ^ 30 → w.trail.vars + 2 ≤ after →
    new ≡ grown w → IsWatch new after
grown_watch w new capacity after is small room at = subst (λ u. IsWatch u after) (sym at) (record {
  small = small;
  looked = is.looked;
  begun = is.begun;
  ascends = is.ascends;
  few = omega (arith, is.few);
  levelled = is.levelled;
  room = omega (arith, room);
})
