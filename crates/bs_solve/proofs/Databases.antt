-- One more clause in the clause database.
use Rattle.std.proofs.Common.{◌≡◌, ◌≢◌, ℕ, zero, suc, ◌+◌, ◌<◌, ◌≤◌, arith, true, false, cond, List, [], ◌∷◌, ◌++◌, length, refl, sym, ap, subst, ◌∙◌, inl, inr, ◌⊎◌, Option, Some, None, eqb}
use Rattle.std.specs.Prelude.{Contains, slice_get, is_some, option_map, unwrap_or, IsPermutation}
use Rattle.std.proofs.lemmas.Bool.{cases_eq, ne_eqb, false≢true}
use Rattle.std.specs.List.{filter}
use Rattle.std.proofs.lemmas.List.Sums.{sum_by_push}
use Rattle.std.proofs.lemmas.List.Elements.{All-contains}
use Rattle.std.proofs.lemmas.List.Sorted.{IsPermutation-refl}
use Rattle.bs_clause.specs.Literal.{Literal, Clause}
use Rattle.bs_clause.specs.Range.{HasVariables}
use Rattle.bs_log.specs.declared.origin.Origin.{Origin}
use Rattle.bs_log.specs.declared.origin.Origin.TheVariants.{Axiom, Learnt, Blocked, Retired}
use Rattle.bs_log.specs.History.{Entry}
use Rattle.bs_log.specs.Refusal.{has_distinct_variables, entry_of, is_lemma_or_block}
use Rattle.bs_arena.specs.Arena.{Held, held_at, literals_at, live_words, KeepsOthers}
use Rattle.bs_watch.specs.declared.lists.Watcher.{Watcher}
use Rattle.bs_watch.specs.Lists.{IsAttached}
use Rattle.bs_watch.specs.Scene.{IsWatchable}
use Rattle.bs_watch.specs.Look.{IsFirstTwo}
use Rattle.bs_watch.specs.Trail.{IsOpenOn}
use Rattle.bs_watch.specs.Places.{literals_of}
use Rattle.bs_watch.specs.Watch.{WatchState, Serves, MayAttach, HasAttached}
use Rattle.bs_watch.proofs.CallerLemmas.{may_attach_open}
use Rattle.bs_solve.specs.Ground.{IsOff, HasAdded}
use Rattle.bs_watch.proofs.Gets.{none_is_not_some, same_some, get_left, get_last, get_push_cases, get_from_Contains, Contains_from_get}
use Rattle.bs_solve_lemmas.proofs.Clauses.{nothing_in, contains_cases, all_from, distinct_parts}
use Rattle.bs_solve_lemmas.specs.declared.row.LoggedClause.{LoggedClause}
use Rattle.bs_solve_lemmas.specs.Keeping.{AreHeld}
use Rattle.bs_solve_lemmas.specs.Rows.{AreRowsAmong}
use Rattle.bs_solve_lemmas.proofs.Entries.{found_still}
use Rattle.bs_solve.specs.declared.database.Database.{Database}
use Rattle.bs_solve.specs.Database.{is_live, id_in, IsClauseOf, HoldsEntries, rows_for, HasJoined}
use Rattle.bs_solve.proofs.Grounds.{ground_added}
use Rattle.bs_solve.proofs.Entries.{id_of, id_is_live, live_id, entry_last, push_cases, append_cases, rows_permuted, rows_among}

-- ---- references

pub others_of_push : (hs : List Held) (h : Held) (r : ℕ) → r ≢ h.ref → held_at (hs ++ h ∷ []) r ≡ held_at hs r
others_of_push [] h r other = ap (λ b. cond b (Some h) None) (ne_eqb h.ref r (λ e. other (sym e)))
others_of_push (g ∷ hs) h r other = ap (λ rest. cond (eqb g.ref r) (Some g) rest) (others_of_push hs h r other)

pub others_added : (old new : List Held) (h : Held) → new ≡ old ++ h ∷ [] → KeepsOthers old new h.ref
others_added old new h is = record { kept = λ r other. ap (λ hs. held_at hs r) is ∙ others_of_push old h r other }

pub others_trans : (a b c : List Held) (q : ℕ) → KeepsOthers a b q → KeepsOthers b c q → KeepsOthers a c q
others_trans a b c q x y = record { kept = λ r other. y.kept r other ∙ x.kept r other }

pub literals_from : (clauses : List Held) (r : ℕ) (h : Held) → held_at clauses r ≡ Some h → literals_at clauses r ≡ h.literals
literals_from clauses r h found = ap (λ o. unwrap_or (option_map (λ (x : Held). x.literals) o) []) found

pub id_from : (clauses : List Held) (r : ℕ) (h : Held) → held_at clauses r ≡ Some h → id_in clauses r ≡ h.id
id_from clauses r h found = ap (λ o. unwrap_or (option_map (λ (x : Held). x.id) o) 0) found

pub live_from : (clauses : List Held) (r : ℕ) (h : Held) → held_at clauses r ≡ Some h → is_live clauses r ≡ true
live_from clauses r h found = ap is_some found

-- ---- the clause database

pub holds_more : (lists after : List (List Watcher)) (old new : List Held) (database more : Database) (es : List Entry) (q : ℕ) (e : Entry) →
    HoldsEntries lists old database es → entry_of es e.id ≡ None → KeepsOthers old new q → held_at old q ≡ None → is_live new q ≡ true →
    id_in new q ≡ e.id → IsPermutation e.literals (literals_at new q) →
    ((r : ℕ) → IsAttached lists r → IsAttached after r) → (2 ≤ length (literals_at new q) → IsAttached after q) →
    ((r : ℕ) → Contains database.shorts.items r → Contains more.shorts.items r) → (length (literals_at new q) < 2 → Contains more.shorts.items q) →
    ((r : ℕ) → Contains more.shorts.items r → Contains database.shorts.items r ⊎ ((r ≡ q) × (length (literals_at new q) < 2))) →
    more.rows.items ≡ database.rows.items ++ rows_for e.id q e.origin → HoldsEntries after new more (es ++ e ∷ [])
holds_more lists after old new database more es q e s free others fresh live id_is same attached long listed short only rows = record {
  spelled = λ r is. elim (cases_eq r q) [
    | inl here ↦ (
      e,
      ap (entry_of (es ++ e ∷ [])) (ap (id_in new) here ∙ id_is) ∙ entry_last es e free,
      subst (λ x. IsPermutation e.literals (literals_at new x)) (sym here) same,
    )
    | inr other ↦
        let was = s.spelled r (was_live r other is) in (
          was.0,
          ap (entry_of (es ++ e ∷ [])) (id_kept r other) ∙ found_still es (e ∷ []) (id_in old r) was.0 was.1,
          subst (IsPermutation was.0.literals) (sym (literals_kept r other)) was.2,
        )
  ];
  held = λ f there. elim (push_cases es e f there) [
    | inl was ↦
        let (r, h) = s.held f was in
        let other : r ≢ q = apart r h.live in (
          r,
          record {
            live = ap is_some (others.kept r other) ∙ h.live;
            id_is = id_kept r other ∙ h.id_is;
            same = subst (IsPermutation f.literals) (sym (literals_kept r other)) h.same;
          },
        )
    | inr last ↦ (q, subst (λ x. IsClauseOf new x q) last (record { live = live; id_is = id_is; same = same }))
  ];
  once = λ x y is_x is_y alike. elim (cases_eq x q) [
    | inl here ↦ elim (cases_eq y q) [
      | inl also ↦ here ∙ sym also
      | inr other ↦ absurd (no_old y other is_y (sym alike ∙ ap (id_in new) here ∙ id_is))
    ]
    | inr apart_x ↦ elim (cases_eq y q) [
      | inl also ↦ absurd (no_old x apart_x is_x (alike ∙ ap (id_in new) also ∙ id_is))
      | inr apart_y ↦ s.once x y (was_live x apart_x is_x) (was_live y apart_y is_y) (sym (id_kept x apart_x) ∙ alike ∙ id_kept y apart_y)
    ]
  ];
  attached = λ r is two. elim (cases_eq r q) [
    | inl here ↦ subst (IsAttached after) (sym here) (long (subst (λ x. 2 ≤ length (literals_at new x)) here two))
    | inr other ↦ attached r (s.attached r (was_live r other is) (subst (λ x. 2 ≤ length x) (literals_kept r other) two))
  ];
  short = λ r is few. elim (cases_eq r q) [
    | inl here ↦ subst (Contains more.shorts.items) (sym here) (short (subst (λ x. length (literals_at new x) < 2) here few))
    | inr other ↦ listed r (s.short r (was_live r other is) (subst (λ x. length x < 2) (literals_kept r other) few))
  ];
  listed = all_from (λ r. is_live new r ≡ true) more.shorts.items (λ r there. elim (cases_eq r q) [
    | inl here ↦ ap (is_live new) here ∙ live
    | inr other ↦ elim (only r there) [
      | inl was ↦ ap is_some (others.kept r other) ∙ All-contains (λ x. is_live old x ≡ true) database.shorts.items r s.listed was
      | inr here ↦ absurd (other here.0)
    ]
  ]);
  few = all_from (λ r. length (literals_at new r) < 2) more.shorts.items (λ r there. elim (only r there) [
    | inl was ↦
        let other : r ≢ q = apart r (All-contains (λ x. is_live old x ≡ true) database.shorts.items r s.listed was) in
        subst (λ x. length x < 2) (sym (literals_kept r other)) (All-contains (λ x. length (literals_at old x) < 2) database.shorts.items r s.few was)
    | inr here ↦ subst (λ x. length (literals_at new x) < 2) (sym here.0) here.1
  ]);
  rows = subst (λ rs. AreRowsAmong new rs (es ++ e ∷ [])) (sym rows) (rows_among new database.rows.items es e q
      (rows_permuted old new database.rows.items (filter is_lemma_or_block es) s.rows (λ row there.
      subst (IsPermutation (literals_at old row.clause)) (sym (literals_kept row.clause (row_apart row there)))
      (IsPermutation-refl (literals_at old row.clause)))) same);
  rows_live = subst (AreHeld new) (sym rows) (all_from (λ (row : LoggedClause). id_of new row.clause ≡ Some row.id)
      (database.rows.items ++ rows_for e.id q e.origin) (λ row there.
      elim (append_cases database.rows.items (rows_for e.id q e.origin) row there) [
        | inl was ↦
            ap (option_map (λ (h : Held). h.id)) (others.kept row.clause (row_apart row was)) ∙
            All-contains (λ (y : LoggedClause). id_of old y.clause ≡ Some y.id) database.rows.items row s.rows_live was
        | inr last ↦ new_row e.origin row last
      ]));
}
  where
    apart : (r : ℕ) → is_live old r ≡ true → r ≢ q
    apart r is here = false≢true (ap is_some (sym fresh ∙ ap (held_at old) (sym here)) ∙ is)

    was_live : (r : ℕ) → r ≢ q → is_live new r ≡ true → is_live old r ≡ true
    was_live r other is = ap is_some (sym (others.kept r other)) ∙ is

    id_kept : (r : ℕ) → r ≢ q → id_in new r ≡ id_in old r
    id_kept r other = ap (λ o. unwrap_or (option_map (λ (x : Held). x.id) o) 0) (others.kept r other)

    literals_kept : (r : ℕ) → r ≢ q → literals_at new r ≡ literals_at old r
    literals_kept r other = ap (λ o. unwrap_or (option_map (λ (x : Held). x.literals) o) []) (others.kept r other)

    no_old : (r : ℕ) → r ≢ q → is_live new r ≡ true → id_in new r ≡ e.id → ⊥
    no_old r other is at =
        let was = s.spelled r (was_live r other is) in
        none_is_not_some was.0 (sym free ∙ ap (entry_of es) (sym at ∙ id_kept r other) ∙ was.1)

    row_apart : (row : LoggedClause) → Contains database.rows.items row → row.clause ≢ q
    row_apart row there = apart row.clause (id_is_live old row.clause row.id
        (All-contains (λ (y : LoggedClause). id_of old y.clause ≡ Some y.id) database.rows.items row s.rows_live there))

    new_id : id_of new q ≡ Some e.id
    new_id = by (id_of new q) (live_id new q ∙ live) id_is
      where
        by : (o : Option ℕ) → is_some o ≡ true → unwrap_or o 0 ≡ e.id → o ≡ Some e.id
        by None none is = absurd (false≢true none)
        by (Some n) some is = ap Some is

    one_row : (row x : LoggedClause) → row.clause ≡ q → row.id ≡ e.id → Contains (row ∷ []) x → id_of new x.clause ≡ Some x.id
    one_row row x clause id there = elim (contains_cases row [] x there) [
      | inl is ↦ subst (λ (y : LoggedClause). id_of new y.clause ≡ Some y.id) is (ap (id_of new) clause ∙ new_id ∙ ap Some (sym id))
      | inr nowhere ↦ absurd (nothing_in x nowhere)
    ]

    new_row : (o : Origin) (x : LoggedClause) → Contains (rows_for e.id q o) x → id_of new x.clause ≡ Some x.id
    new_row Axiom x there = absurd (nothing_in x there)
    new_row Learnt x there = one_row (record { id = e.id; clause = q; is_lemma = true }) x refl refl there
    new_row Blocked x there = one_row (record { id = e.id; clause = q; is_lemma = false }) x refl refl there
    new_row Retired x there = absurd (nothing_in x there)

-- ---- clauses that can be watched

pub distinct_gets : (c : Clause) → has_distinct_variables c ≡ true → (i j : ℕ) (l m : Literal) → slice_get c i ≡ Some l → slice_get c j ≡ Some m →
    l.variable ≡ m.variable → i ≡ j
distinct_gets [] d i j l m a b same = absurd (none_is_not_some l a)
distinct_gets (x ∷ c) d zero zero l m a b same = refl
distinct_gets (x ∷ c) d zero (suc j) l m a b same =
    absurd ((distinct_parts x c d).0 m (Contains_from_get c j m b) (sym same ∙ ap (λ (y : Literal). y.variable) (sym (same_some x l a))))
distinct_gets (x ∷ c) d (suc i) zero l m a b same =
    absurd ((distinct_parts x c d).0 l (Contains_from_get c i l a) (same ∙ ap (λ (y : Literal). y.variable) (sym (same_some x m b))))
distinct_gets (x ∷ c) d (suc i) (suc j) l m a b same = ap (λ n. suc n) (distinct_gets c (distinct_parts x c d).1 i j l m a b same)

pub watchable : (vars : ℕ) (c : Clause) → has_distinct_variables c ≡ true → HasVariables vars c → 2 ≤ length c → IsWatchable vars c
watchable vars c distinct range long = record { long = long; apart = distinct_gets c distinct; range = range }

-- a clause of which no variable has a value
pub may_attach_off : (w : WatchState) (c : Clause) → IsOff w.trail.places c → MayAttach w c
may_attach_off w c off = may_attach_open w c (λ m first lost.
    (All-contains (IsOpenOn (literals_of w.trail.places)) c m off (first_stands c m first)).1 lost)
  where
    first_stands : (x : Clause) (m : Literal) → IsFirstTwo x m → Contains x m
    first_stands x m (inl zeroth) = Contains_from_get x 0 m zeroth
    first_stands x m (inr one) = Contains_from_get x 1 m one

-- ---- a clause that was added to the arena

pub joined_short : (w : WatchState) (clauses : List Held) (shorts more : List ℕ) (r : ℕ) → Serves w clauses → more ≡ shorts ++ r ∷ [] →
    length (literals_at clauses r) < 2 → HasJoined w w shorts more clauses r
joined_short w clauses shorts more r s is few = record {
  serves = s;
  trail = refl;
  levels = refl;
  head = refl;
  attached = λ q a. a;
  long = λ two. absurd (omega (arith, two, few));
  shorts = λ q there.
      let (k, at) = get_from_Contains shorts q there in
      subst (λ xs. Contains xs q) (sym is) (Contains_from_get (shorts ++ r ∷ []) k q (get_left shorts (r ∷ []) k q at));
  short = λ _. subst (λ xs. Contains xs r) (sym is) (Contains_from_get (shorts ++ r ∷ []) (length shorts) r (get_last shorts r));
  front = λ k q at. subst (λ xs. slice_get xs k ≡ Some q) (sym is) (get_left shorts (r ∷ []) k q at);
  listed = λ q there.
      let (k, at) = get_from_Contains more q there in
      elim (get_push_cases shorts r q k (subst (λ xs. slice_get xs k ≡ Some q) is at)) [
        | inl old ↦ inl (Contains_from_get shorts k q old)
        | inr last ↦ inr (sym last.1, few)
      ];
}

pub joined_long : (w new : WatchState) (clauses : List Held) (shorts : List ℕ) (r : ℕ) → HasAttached w new clauses r → 2 ≤ length (literals_at clauses r) →
    HasJoined w new shorts shorts clauses r
joined_long w new clauses shorts r h two = record {
  serves = h.serves;
  trail = h.trail;
  levels = h.levels;
  head = h.head;
  attached = λ q a. (h.attached q).1 (inl a);
  long = λ _. (h.attached r).1 (inr refl);
  shorts = λ q there. there;
  short = λ few. absurd (omega (arith, two, few));
  front = λ k q at. at;
  listed = λ q there. inl there;
}

pub holds_joined : (old new : WatchState) (before after : List Held) (database more : Database) (es : List Entry) (r : ℕ) (e : Entry) →
    HoldsEntries old.lists before database es → entry_of es e.id ≡ None → KeepsOthers before after r → held_at before r ≡ None → is_live after r ≡ true →
    id_in after r ≡ e.id → IsPermutation e.literals (literals_at after r) →
    HasJoined old new database.shorts.items more.shorts.items after r → more.rows.items ≡ database.rows.items ++ rows_for e.id r e.origin →
    HoldsEntries new.lists after more (es ++ e ∷ [])
holds_joined old new before after database more es r e s free others fresh live id same j rows =
    holds_more old.lists new.lists before after database more es r e s free others fresh live id same j.attached j.long j.shorts j.short j.listed rows

pub added_held : (old new : WatchState) (before after : List Held) (database more : Database) (r : ℕ) (e : Entry) →
    after ≡ before ++ record { ref = r; id = e.id; literals = e.literals } ∷ [] → held_at before r ≡ None →
    held_at after r ≡ Some (record { ref = r; id = e.id; literals = e.literals }) →
    HasJoined old new database.shorts.items more.shorts.items after r → more.rows.items ≡ database.rows.items ++ rows_for e.id r e.origin →
    HasAdded old.lists new.lists before after database more e
added_held old new before after database more r e is fresh found j rows = record {
  more = λ es free s.
      holds_joined old new before after database more es r e s free (others_added before after (record { ref = r; id = e.id; literals = e.literals }) is)
      fresh (live_from after r (record { ref = r; id = e.id; literals = e.literals }) found)
      (id_from after r (record { ref = r; id = e.id; literals = e.literals }) found)
      (subst (IsPermutation e.literals) (sym (literals_from after r (record { ref = r; id = e.id; literals = e.literals }) found))
      (IsPermutation-refl e.literals)) j rows;
  ground = λ es free s places g.
      ground_added old.lists before after database more.shorts.items es e r places s
      (others_added before after (record { ref = r; id = e.id; literals = e.literals }) is) fresh (λ k q less at. j.front k q at) g;
}

-- the words of one more clause
pub words_added : (old_words new_words : ℕ) (before after : List Held) (r id : ℕ) (c : Clause) →
    after ≡ before ++ record { ref = r; id = id; literals = c } ∷ [] → new_words ≡ old_words + length c + 4 →
    new_words + live_words before ≡ old_words + live_words after
words_added old_words new_words before after r id c is words =
    let more = ap live_words is ∙ words_push before (record { ref = r; id = id; literals = c }) in
    omega (arith, words, more)
  where
    words_push : (hs : List Held) (h : Held) → live_words (hs ++ h ∷ []) ≡ live_words hs + (length h.literals + 4)
    words_push hs h = sum_by_push (λ (x : Held). length x.literals + 4) hs h
