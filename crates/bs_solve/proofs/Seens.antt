-- What visits and the clause database say of the trail as the log sees it.
use Rattle.std.proofs.Common.{◌≡◌, ℕ, ◌<◌, arith, Bool, true, false, cond, List, [], ◌∷◌, map, length, take, refl, sym, ap, subst, ◌∙◌, inl, inr, ◌⊎◌, Some, eqb}
use Rattle.std.specs.Prelude.{Contains, is_some, option_map, unwrap_or, IsPermutation}
use Rattle.std.specs.List.{find, filter}
use Rattle.std.proofs.lemmas.Bool.{cases_lt}
use Rattle.std.proofs.lemmas.List.{take-map, length-map}
use Rattle.std.proofs.lemmas.List.Elements.{All-contains}
use Rattle.std.proofs.lemmas.List.Sorted.{IsPermutation-sym, IsPermutation-trans, Contains-permutation, All-permutation, length_permutation}
use Rattle.bs_clause.specs.Literal.{Literal, Clause}
use Rattle.bs_log.specs.History.{Entry}
use Rattle.bs_log.specs.Refusal.{entry_of, is_lemma_or_block}
use Rattle.bs_arena.specs.Arena.{Held, held_at, literals_at}
use Rattle.bs_watch.specs.declared.lists.Watcher.{Watcher}
use Rattle.bs_watch.specs.Trail.{IsTrueOn, IsFalseOn, IsConflict, IsUnit, Implies, IsQuiet}
use Rattle.bs_watch.specs.Places.{Place, literals_of, AreApart}
use Rattle.bs_watch.specs.Lists.{IsAttached}
use Rattle.bs_watch.specs.Look.{HasTrue}
use Rattle.bs_watch.specs.Scene.{name_of, AreShuffled, Grows}
use Rattle.bs_watch.proofs.Guards.{consistent}
use Rattle.bs_solve_lemmas.specs.declared.row.LoggedClause.{LoggedClause}
use Rattle.bs_solve_lemmas.specs.Place.{LoggedPlace}
use Rattle.bs_solve_lemmas.specs.Places.{logged_literals}
use Rattle.bs_solve_lemmas.specs.Grown.{LoggedGrows}
use Rattle.bs_watch.proofs.Gets.{get_map_cases}
use Rattle.bs_solve_lemmas.proofs.AnalysisCallerLemmas.{implies_permuted}
use Rattle.bs_solve_lemmas.proofs.Clauses.{all_from, map_cases, map_contains}
use Rattle.bs_solve_lemmas.proofs.Entries.{found_stands}
use Rattle.bs_solve.specs.declared.database.Database.{Database}
use Rattle.bs_solve.specs.Database.{is_live, id_in, HoldsEntries}
use Rattle.bs_solve.proofs.Entries.{id_of, clauses_in, rows_permuted}
use Rattle.bs_solve.specs.Seen.{seen_place, seen}

-- ---- lists

pub literals_seen : (ps : List Place) → logged_literals (seen ps) ≡ literals_of ps
literals_seen [] = refl
literals_seen (p ∷ ps) = ap (λ ls. p.literal ∷ ls) (literals_seen ps)

pub take_seen : (n : ℕ) (ps : List Place) → take n (seen ps) ≡ seen (take n ps)
take_seen n ps = take-map seen_place n ps

pub length_seen : (ps : List Place) → length (seen ps) ≡ length ps
length_seen ps = length-map ps seen_place

pub literals_seen_take : (n : ℕ) (ps : List Place) → logged_literals (take n (seen ps)) ≡ literals_of (take n ps)
literals_seen_take n ps = ap logged_literals (take_seen n ps) ∙ literals_seen (take n ps)

-- ---- spellings

pub conflict_spelled : (trail : List Literal) (c d : Clause) → IsPermutation c d → IsConflict trail c → IsConflict trail d
conflict_spelled trail c d p x = All-permutation (IsFalseOn trail) c d p x

pub unit_spelled : (trail : List Literal) (c d : Clause) → IsPermutation c d → IsUnit trail c → IsUnit trail d
unit_spelled trail c d p x = record {
  literal = x.literal;
  stands = Contains-permutation c d x.literal p x.stands;
  unassigned = x.unassigned;
  others = All-permutation (λ m. (m ≡ x.literal) ⊎ IsFalseOn trail m) c d p x.others;
}

-- ---- shuffles

pub id_by_names : (hs : List Held) (r : ℕ) →
    option_map (λ (h : Held). h.id) (held_at hs r) ≡ option_map (λ (n : ℕ × ℕ). n.1) (find (λ (n : ℕ × ℕ). eqb n.0 r) (map name_of hs))
id_by_names [] r = refl
id_by_names (h ∷ hs) r = by (eqb h.ref r) (id_by_names hs r)
  where
    by : (b : Bool) → option_map (λ (x : Held). x.id) (held_at hs r) ≡ option_map (λ (n : ℕ × ℕ). n.1) (find (λ (n : ℕ × ℕ). eqb n.0 r) (map name_of hs)) →
        option_map (λ (x : Held). x.id) (cond b (Some h) (held_at hs r)) ≡
        option_map (λ (n : ℕ × ℕ). n.1) (cond b (Some (name_of h)) (find (λ (n : ℕ × ℕ). eqb n.0 r) (map name_of hs)))
    by true rest = refl
    by false rest = rest

pub id_shuffled : (old new : List Held) → AreShuffled old new → (r : ℕ) → id_of new r ≡ id_of old r
id_shuffled old new s r =
    id_by_names new r ∙ ap (λ ns. option_map (λ (n : ℕ × ℕ). n.1) (find (λ (n : ℕ × ℕ). eqb n.0 r) ns)) s.names ∙ sym (id_by_names old r)

pub holds_shuffled : (lists after : List (List Watcher)) (old new : List Held) (database : Database) (es : List Entry) →
    HoldsEntries lists old database es → AreShuffled old new → ((r : ℕ) → IsAttached lists r → IsAttached after r) → HoldsEntries after new database es
holds_shuffled lists after old new database es s x attached = record {
  spelled = λ r is.
      let was = s.spelled r (sym (x.live r) ∙ is) in (
        was.0,
        ap (entry_of es) (same_id r) ∙ was.1,
        IsPermutation-trans was.0.literals (literals_at old r) (literals_at new r) was.2 (x.same r),
      );
  held = λ e there. let (r, h) = s.held e there in (
    r,
    record {
      live = x.live r ∙ h.live;
      id_is = same_id r ∙ h.id_is;
      same = IsPermutation-trans e.literals (literals_at old r) (literals_at new r) h.same (x.same r);
    },
  );
  once = λ q r is_q is_r same. s.once q r (sym (x.live q) ∙ is_q) (sym (x.live r) ∙ is_r) (sym (same_id q) ∙ same ∙ same_id r);
  attached = λ r is two. attached r (s.attached r (sym (x.live r) ∙ is)
      (let e = length_permutation (literals_at old r) (literals_at new r) (x.same r) in omega (arith, e, two)));
  short = λ r is few. s.short r (sym (x.live r) ∙ is) (let e = length_permutation (literals_at old r) (literals_at new r) (x.same r) in omega (arith, e, few));
  listed = all_from (λ r. is_live new r ≡ true) database.shorts.items (λ r there.
      x.live r ∙ All-contains (λ y. is_live old y ≡ true) database.shorts.items r s.listed there);
  few = all_from (λ r. length (literals_at new r) < 2) database.shorts.items (λ r there.
      let was = All-contains (λ y. length (literals_at old y) < 2) database.shorts.items r s.few there in
      let e = length_permutation (literals_at old r) (literals_at new r) (x.same r) in omega (arith, e, was));
  rows = rows_permuted old new database.rows.items (filter is_lemma_or_block es) s.rows (λ row there. x.same row.clause);
  rows_live = all_from (λ (row : LoggedClause). id_of new row.clause ≡ Some row.id) database.rows.items (λ row there.
      id_shuffled old new x row.clause ∙ All-contains (λ (y : LoggedClause). id_of old y.clause ≡ Some y.id) database.rows.items row s.rows_live there);
}
  where
    same_id : (r : ℕ) → id_in new r ≡ id_in old r
    same_id r = ap (λ o. unwrap_or o 0) (id_shuffled old new x r)

-- ---- growing

pub grows_seen : (lists : List (List Watcher)) (clauses : List Held) (database : Database) (es : List Entry) (level : ℕ) (old new : List Place) →
    HoldsEntries lists clauses database es → Grows clauses level old new → LoggedGrows (clauses_in es) (seen old) (seen new)
grows_seen lists clauses database es level old new s g = record {
  longer = omega (arith, length_seen old, length_seen new, g.longer);
  front = ap (λ n. take n (seen new)) (length_seen old) ∙ take_seen (length old) new ∙ ap seen g.front;
  implied = λ k p low e.
      let (q, at, is) = get_map_cases seen_place new k p e in
      let f = g.implied k q (omega (arith, low, length_seen old)) at in
      let (d, there, same) = s.spelled f.by f.live in
      record {
        is = ap (λ (x : LoggedPlace). x.implied) (sym is) ∙ ap is_some f.reason;
        clause = d.literals;
        there = map_contains (λ (x : Entry). x.literals) es d (found_stands es (id_in clauses f.by) d there);
        implies = subst (λ l. Implies (logged_literals (take k (seen new))) d.literals l) (ap (λ (x : LoggedPlace). x.literal) is)
            (subst (λ ls. Implies ls d.literals q.literal) (sym (literals_seen_take k new))
            (implies_permuted (literals_of (take k new)) (literals_at clauses f.by) d.literals q.literal
            (IsPermutation-sym d.literals (literals_at clauses f.by) same) f.implies));
      };
}

-- ---- where propagation ends

-- each clause of the list is spelled by one of the arena
pub spelled_by : (lists : List (List Watcher)) (clauses : List Held) (database : Database) (es : List Entry) → HoldsEntries lists clauses database es →
    (c : Clause) → Contains (clauses_in es) c → (r : ℕ) × (is_live clauses r ≡ true) × IsPermutation c (literals_at clauses r)
spelled_by lists clauses database es s c there =
    let (e, in_es, is) = map_cases (λ (x : Entry). x.literals) es c there in
    let (r, h) = s.held e in_es in
    (r, h.live, subst (λ x. IsPermutation x (literals_at clauses r)) is h.same)

pub quiet_database : (trail : List Place) (lists : List (List Watcher)) (clauses : List Held) (database : Database) (es : List Entry) →
    HoldsEntries lists clauses database es → AreApart trail →
    ((r : ℕ) → IsAttached lists r → ¬ IsConflict (literals_of trail) (literals_at clauses r)) →
    ((r : ℕ) → IsAttached lists r → ¬ IsUnit (literals_of trail) (literals_at clauses r)) →
    ((r : ℕ) → Contains database.shorts.items r → HasTrue (literals_of trail) (literals_at clauses r)) → IsQuiet (literals_of trail) (clauses_in es)
quiet_database trail lists clauses database es s apart no_conflict no_unit satisfied = record {
  no_conflict = all_from (λ c. ¬ IsConflict (literals_of trail) c) (clauses_in es) (λ c there x.
      let (r, is, same) = spelled_by lists clauses database es s c there in
      let lost = conflict_spelled (literals_of trail) c (literals_at clauses r) same x in
      elim (cases_lt (length (literals_at clauses r)) 2) [
        | inl few ↦
            let t = satisfied r (s.short r is few) in
            consistent trail apart t.literal t.holds (All-contains (IsFalseOn (literals_of trail)) (literals_at clauses r) t.literal lost t.stands)
        | inr two ↦ no_conflict r (s.attached r is two) lost
      ]);
  no_unit = all_from (λ c. ¬ IsUnit (literals_of trail) c) (clauses_in es) (λ c there x.
      let (r, is, same) = spelled_by lists clauses database es s c there in
      let unit = unit_spelled (literals_of trail) c (literals_at clauses r) same x in
      elim (cases_lt (length (literals_at clauses r)) 2) [
        | inl few ↦
            let t = satisfied r (s.short r is few) in
            elim (All-contains (λ m. (m ≡ unit.literal) ⊎ IsFalseOn (literals_of trail) m) (literals_at clauses r) t.literal unit.others t.stands) [
              | inl here ↦ unit.unassigned.0 (subst (IsTrueOn (literals_of trail)) here t.holds)
              | inr lost ↦ consistent trail apart t.literal t.holds lost
            ]
        | inr two ↦ no_unit r (s.attached r is two) unit
      ]);
}
