-- What is learnt from a conflict, as the log and as the watch see it.
use Rattle.std.proofs.Common.{◌≡◌, ◌≢◌, ℕ, zero, suc, ◌-◌, ◌<◌, ◌≤◌, ◌^◌, arith, true, false, cond, List, [], ◌∷◌, ◌++◌, map, reverse, length, take, swap, refl, sym, ap, subst, ◌∙◌, inl, inr, ◌⊎◌, Option, Some, None}
use Rattle.std.specs.Prelude.{All, AllPairs, Contains, slice_get, is_some, option_map, unwrap_or, IsPermutation, IsTrue}
use Rattle.std.specs.List.{cons_option}
use Rattle.std.proofs.lemmas.Bool.{cases_Bool, cases_lt, cases_eq, eq-eqb, ne_eqb, true≢false, false≢true}
use Rattle.std.proofs.lemmas.List.{length-take-le, map-append, reverse-append, take-append-le, take-take}
use Rattle.std.proofs.lemmas.List.Elements.{All-contains}
use Rattle.std.proofs.lemmas.List.Sorted.{IsPermutation-sym, IsPermutation-keeps, Contains-permutation, All-permutation}
use Rattle.std.proofs.lemmas.Option.{get_or_from_slice_get}
use Rattle.bs_clause.specs.Literal.{Literal, Clause, negation}
use Rattle.bs_clause.specs.Range.{HasVariables, IsWithin}
use Rattle.bs_log.specs.declared.origin.Origin.{Origin}
use Rattle.bs_log.specs.declared.origin.Origin.TheVariants.{Learnt as FromConflict}
use Rattle.bs_log.specs.History.{Entry, live}
use Rattle.bs_log.specs.Refusal.{has_distinct_variables, entry_of, clauses_of, NoneRefused}
use Rattle.bs_log.specs.LineForms.{HasVariable}
use Rattle.bs_log.specs.Lean.{IsNew, IsResolventOf, LemmasAreLean}
use Rattle.bs_log.specs.Propagation.{hints_are_unit, last_is_false}
use Rattle.bs_arena.specs.Arena.{Content, IsContent, Held, held_at, literals_at, KeepsOthers}
use Rattle.bs_watch.specs.declared.watch.Level.{Level}
use Rattle.bs_watch.specs.declared.lists.Watcher.{Watcher}
use Rattle.bs_watch.specs.Trail.{IsTrueOn, IsFalseOn, IsConflict, IsUnit, IsQuiet, Implies}
use Rattle.bs_watch.specs.Places.{Place, TrailState, literals_of}
use Rattle.bs_watch.specs.Look.{HasTrue}
use Rattle.bs_watch.specs.Watch.{WatchState}
use Rattle.bs_solve_lemmas.specs.Reasons.{live_clauses, IsReasoned, last_start, Spells, IsSpared, AreSpared}
use Rattle.bs_solve_lemmas.specs.ImplicationPoint.{IsDecisionAt, IsLastDecision, IsPoint}
use Rattle.bs_solve_lemmas.specs.AnalysisWalk.{IsLearnt}
use Rattle.bs_solve_lemmas.proofs.Walkable.{live_contains}
use Rattle.bs_solve_lemmas.proofs.AnalysisCallerLemmas.{reasoned_take, reasoned_push, reasoned_kept}
use Rattle.bs_solve_lemmas.specs.Place.{LoggedPlace}
use Rattle.bs_solve_lemmas.specs.Point.{is_alone_at, IsCut, IsLoggedPoint, IsLoggedDecision}
use Rattle.bs_solve_lemmas.specs.Walk.{IsLoggedLearnt}
use Rattle.bs_solve_lemmas.specs.ProofLog.{ProofLog, standing, next_id, with_lemma}
use Rattle.bs_solve_lemmas.specs.Search.{HasLearnt}
use Rattle.bs_watch.proofs.Gets.{none_is_not_some, same_some, get_map_cases, get_map, get_within, get_from_Contains, Contains_from_get, get_take}
use Rattle.bs_solve_lemmas.proofs.Clauses.{all_from, map_cases, map_contains, contains_first, cons_contains, distinct_cons}
use Rattle.bs_solve_lemmas.proofs.Backjumps.{others_from_alone, alone_from_others}
use Rattle.bs_solve_lemmas.proofs.Searching.{learnt_range, have_variables, learnt_is_new, has_learnt}
use Rattle.bs_solve_lemmas.proofs.Entries.{found_stands}
use Rattle.bs_solve.specs.declared.database.Database.{Database}
use Rattle.bs_solve.specs.Database.{entries, is_live, id_in, HoldsEntries}
use Rattle.bs_solve.proofs.Entries.{clauses_in, push_cases, stands_grown}
use Rattle.bs_solve.specs.Seen.{seen_place, seen}
use Rattle.bs_solve.specs.Begun.{AreBegun, AreSatisfied}
use Rattle.bs_solve.specs.Running.{seen_trail, IsRunning}
use Rattle.bs_solve.specs.Backjump.{IsLearntClause, HasTaken, JumpsBack}
use Rattle.bs_solve.specs.Learning.{IsInConflict, LearnsFrom}
use Rattle.bs_watch.proofs.Choices.{Stood, apart_stood, from_swap}
use Rattle.bs_solve.proofs.Databases.{holds_joined, distinct_gets}
use Rattle.bs_solve.proofs.Seens.{take_seen, length_seen, literals_seen_take, conflict_spelled, unit_spelled}
use Rattle.bs_solve.specs.Ground.{IsGround, IsOwn}
use Rattle.bs_solve.proofs.Plains.{IsPlain, plain_resolvent, plain_live}
use Rattle.bs_solve.proofs.Grounds.{ground_added, plain_spared}
use Rattle.bs_solve.proofs.Begins.{begun_cut, begun_implied, satisfied_cut, last_level, true_left}

-- ---- live clauses

-- references ascend, so a clause is found by its own
pub held_self : (hs : List Held) (h : Held) → AllPairs (λ (a b : Held). a.ref < b.ref) hs → Contains hs h → held_at hs h.ref ≡ Some h
held_self hs h ascends there =
    let (k, at) = get_from_Contains hs h there in
    by_place hs k ascends at
  where
    tail : (x : Held) (xs : List Held) → AllPairs (λ (a b : Held). a.ref < b.ref) (x ∷ xs) → AllPairs (λ (a b : Held). a.ref < b.ref) xs
    tail x xs pairs = λ i j d before within. pairs (suc i) (suc j) d (omega (arith, before)) (omega (arith, within))

    by_place : (xs : List Held) (k : ℕ) → AllPairs (λ (a b : Held). a.ref < b.ref) xs → slice_get xs k ≡ Some h → held_at xs h.ref ≡ Some h
    by_place [] k pairs at = absurd (none_is_not_some h at)
    by_place (x ∷ xs) zero pairs at =
        ap (λ b. cond b (Some x) (held_at xs h.ref)) (eq-eqb x.ref h.ref (ap (λ (y : Held). y.ref) (same_some x h at))) ∙ at
    by_place (x ∷ xs) (suc k) pairs at =
        let less : x.ref < h.ref = subst (λ (y : Held). x.ref < y.ref) (get_or_from_slice_get xs k h h at)
        (pairs 0 (suc k) h (omega arith) (let w = get_within xs k h at in omega (arith, w))) in
        ap (λ b. cond b (Some x) (held_at xs h.ref)) (ne_eqb x.ref h.ref (λ e. (let l = less in omega (arith, l, e)))) ∙ by_place xs k (tail x xs pairs) at

-- each live clause is spelled by one that stands
pub live_spelled : (a : Content) (lists : List (List Watcher)) (database : Database) (es : List Entry) → IsContent a → HoldsEntries lists a.clauses database es →
    (c : Clause) → Contains (live_clauses a.clauses) c → (d : Clause) × Contains (clauses_in es) d × IsPermutation d c
live_spelled a lists database es content s c there =
    let (h, in_clauses, is) = map_cases (λ (x : Held). x.literals) a.clauses c there in
    let found = held_self a.clauses h content.ascends in_clauses in
    let (d, at, same) = s.spelled h.ref (ap is_some found) in (
      d.literals,
      map_contains (λ (x : Entry). x.literals) es d (found_stands es (id_in a.clauses h.ref) d at),
      subst (IsPermutation d.literals) (ap (λ o. unwrap_or (option_map (λ (x : Held). x.literals) o) []) found ∙ is) same,
    )

pub live_range : (a : Content) (lists : List (List Watcher)) (database : Database) (es : List Entry) (vars : ℕ) → IsContent a →
    HoldsEntries lists a.clauses database es →
    All (HasVariables vars) (clauses_in es) → All (HasVariables vars) (live_clauses a.clauses)
live_range a lists database es vars content s range = all_from (HasVariables vars) (live_clauses a.clauses) (λ c there.
    let (d, in_st, same) = live_spelled a lists database es content s c there in
    All-permutation (IsWithin vars) d c same (All-contains (HasVariables vars) (clauses_in es) d range in_st))

-- so are those of the clauses that were resolved
pub hints_range : (clauses : List Held) (hints : List ℕ) (vars : ℕ) → All (λ r. is_some (held_at clauses r) ≡ true) hints →
    All (HasVariables vars) (live_clauses clauses) → All (λ r. HasVariables vars (literals_at clauses r)) hints
hints_range clauses hints vars live range = all_from (λ r. HasVariables vars (literals_at clauses r)) hints (λ r there.
    All-contains (HasVariables vars) (live_clauses clauses) (literals_at clauses r) range
    (live_contains clauses r (literals_at clauses r)
    (record { live = All-contains (λ q. is_some (held_at clauses q) ≡ true) hints r live there; is = refl })))

-- below the first level no literal of a live clause is false
pub live_spared : (a : Content) (proof : ProofLog) (w : WatchState) (database : Database) → IsContent a → HoldsEntries w.lists a.clauses database (entries proof) →
    1 ≤ length w.levels →
    ((v : Level) → slice_get w.levels 0 ≡ Some v → IsGround (entries proof) database.shorts.items a.clauses (take v.start w.trail.places)) →
    IsOwn proof.problem → NoneRefused proof.problem proof.history → LemmasAreLean proof.problem proof.history →
    AreSpared a.clauses w.levels w.trail.places
live_spared a proof w database content s some ground own right lean = record {
  some = some;
  each = λ v first. all_from (IsSpared (take v.start w.trail.places)) (live_clauses a.clauses) (λ c there.
      let (d, in_st, same) = live_spelled a w.lists database (entries proof) content s c there in
      let (e, in_es, is) = map_cases (λ (x : Entry). x.literals) (entries proof) d in_st in
      plain_spared proof w.lists a.clauses database (take v.start w.trail.places) c s (ground v first)
      (All-permutation (IsPlain proof.problem.vars) d c same
      (subst (All (IsPlain proof.problem.vars)) is (plain_live proof.problem proof.history own right lean e in_es))));
}

pub live_quiet : (a : Content) (lists : List (List Watcher)) (database : Database) (es : List Entry) (trail : List Literal) → IsContent a →
    HoldsEntries lists a.clauses database es →
    IsQuiet trail (clauses_in es) → IsQuiet trail (live_clauses a.clauses)
live_quiet a lists database es trail content s quiet = record {
  no_conflict = all_from (λ c. ¬ IsConflict trail c) (live_clauses a.clauses) (λ c there x.
      let (d, in_st, same) = live_spelled a lists database es content s c there in
      All-contains (λ y. ¬ IsConflict trail y) (clauses_in es) d quiet.no_conflict in_st (conflict_spelled trail c d (IsPermutation-sym d c same) x));
  no_unit = all_from (λ c. ¬ IsUnit trail c) (live_clauses a.clauses) (λ c there x.
      let (d, in_st, same) = live_spelled a lists database es content s c there in
      All-contains (λ y. ¬ IsUnit trail y) (clauses_in es) d quiet.no_unit in_st (unit_spelled trail c d (IsPermutation-sym d c same) x));
}

-- no variable stands in two places of the clause
abbrev pub HasApart : Clause → Type 0
HasApart c = (i j : ℕ) (l m : Literal) → slice_get c i ≡ Some l → slice_get c j ≡ Some m → l.variable ≡ m.variable → i ≡ j

-- ---- two literals in round come to the front

apart_swapped : (c : Clause) (a b : ℕ) → a < length c → b < length c → HasApart c → HasApart (swap c a b)
apart_swapped c a b in_a in_b apart = λ i j l m e f same.
    let (was_i, at_i, from_i) = from_swap c a b i l in_a in_b e in
    let (was_j, at_j, from_j) = from_swap c a b j m in_a in_b f in
    let one : was_i ≡ was_j = apart was_i was_j l m at_i at_j same in
    apart_stood a b i j was_j (subst (Stood a b i) one from_i) from_j

from_apart : (c : Clause) → HasApart c → has_distinct_variables c ≡ true
from_apart [] apart = refl
from_apart (x ∷ c) apart =
    distinct_cons x c
    (λ m there same. let (k, at) = get_from_Contains c m there in let e = apart (suc k) zero m x at refl same in omega (arith, e))
    (from_apart c (λ i j l m e f same. (let s = apart (suc i) (suc j) l m e f same in omega (arith, s))))

distinct_permuted : (d c : Clause) → IsPermutation d c → has_distinct_variables d ≡ true → has_distinct_variables c ≡ true
distinct_permuted d c same distinct =
    from_apart c (IsPermutation-keeps d HasApart (distinct_gets d distinct) (λ l i j in_i in_j h. apart_swapped l i j in_i in_j h) c same)

pub live_distinct : (a : Content) (lists : List (List Watcher)) (database : Database) (es : List Entry) → IsContent a → HoldsEntries lists a.clauses database es →
    All (λ c. has_distinct_variables c ≡ true) (clauses_in es) → All (λ c. has_distinct_variables c ≡ true) (live_clauses a.clauses)
live_distinct a lists database es content s distinct = all_from (λ c. has_distinct_variables c ≡ true) (live_clauses a.clauses) (λ c there.
    let (d, in_st, same) = live_spelled a lists database es content s c there in
    distinct_permuted d c same (All-contains (λ y. has_distinct_variables y ≡ true) (clauses_in es) d distinct in_st))

-- ---- the hints

from_reverse : {X : Type 0} (xs : List X) (x : X) → Contains (reverse xs) x → Contains xs x
from_reverse [] x there = there
from_reverse (y ∷ xs) x there = elim (push_cases (reverse xs) y x (subst (λ zs. Contains zs x) (reverse-append (y ∷ []) xs) there)) [
  | inl was ↦ cons_contains y xs x (from_reverse xs x was)
  | inr is ↦ subst (Contains (y ∷ xs)) is (contains_first y xs)
]

-- the clause of the entry that a live clause spells
abbrev pub said_in : List Held → List Entry → ℕ → Clause
said_in clauses es r = unwrap_or (option_map (λ e. e.literals) (entry_of es (id_in clauses r))) []

pub spells : (lists : List (List Watcher)) (clauses : List Held) (database : Database) (es : List Entry) → HoldsEntries lists clauses database es →
    Spells clauses (said_in clauses es)
spells lists clauses database es s = record {
  same = λ r is.
      let (d, at, same) = s.spelled r is in
      subst (IsPermutation (literals_at clauses r)) (sym (ap (λ o. unwrap_or (option_map (λ (e : Entry). e.literals) o) []) at))
      (IsPermutation-sym d.literals (literals_at clauses r) same);
}

-- the entries' clauses of the ids of live clauses
said_by_ids : (lists : List (List Watcher)) (clauses : List Held) (database : Database) (es : List Entry) (hints : List ℕ) → HoldsEntries lists clauses database es →
    ((r : ℕ) → Contains hints r → is_live clauses r ≡ true) → clauses_of es (map (id_in clauses) hints) ≡ map (said_in clauses es) hints
said_by_ids lists clauses database es [] s all = refl
said_by_ids lists clauses database es (r ∷ hints) s all =
    let (d, at, same) = s.spelled r (all r (contains_first r hints)) in
    ap (λ o. cons_option (option_map (λ (e : Entry). e.literals) o) (clauses_of es (map (id_in clauses) hints))) at ∙
    ap (λ c. c ∷ clauses_of es (map (id_in clauses) hints)) (sym (ap (λ o. unwrap_or (option_map (λ (e : Entry). e.literals) o) []) at)) ∙
    ap (λ cs. said_in clauses es r ∷ cs) (said_by_ids lists clauses database es hints s (λ q there. all q (cons_contains r hints q there)))

pub logged_learnt : (lists : List (List Watcher)) (clauses : List Held) (database : Database) (es : List Entry) (lits : Clause) (hints : List ℕ) →
    HoldsEntries lists clauses database es → IsLearnt clauses lits hints → IsLoggedLearnt es lits (map (id_in clauses) (reverse hints))
logged_learnt lists clauses database es lits hints s l =
    let right = l.right (said_in clauses es) (spells lists clauses database es s) in
    let live : (r : ℕ) → Contains (reverse hints) r → is_live clauses r ≡ true =
    λ r there. All-contains (λ x. is_live clauses x ≡ true) hints r l.live (from_reverse hints r there) in
    let same : clauses_of es (map (id_in clauses) (reverse hints)) ≡ map (said_in clauses es) (reverse hints) =
    said_by_ids lists clauses database es (reverse hints) s live in
    record {
      named = all_from (λ h. is_some (entry_of es h) ≡ true) (map (id_in clauses) (reverse hints)) (λ p there.
          let (r, in_hints, is) = map_cases (id_in clauses) (reverse hints) p there in
          let (d, at, _) = s.spelled r (live r in_hints) in
          subst (λ n. is_some (entry_of es n) ≡ true) is (ap is_some at));
      distinct = l.distinct;
      unit = subst (λ cs. IsTrue (hints_are_unit lits cs)) (sym same) right.unit;
      last = subst (λ cs. IsTrue (last_is_false lits cs)) (sym same) right.last;
      resolvent = subst (IsResolventOf lits) (sym same) right.resolvent;
    }

-- ---- the point and the cut

pub quiet_at_last : (a : Content) (base : ℕ) (proof : ProofLog) (w : WatchState) (database : Database) (conflict : ℕ) → IsContent a →
    IsInConflict base proof w a.clauses database conflict → 2 ≤ length w.levels →
    IsQuiet (literals_of (take (last_start w.levels) w.trail.places)) (live_clauses a.clauses)
quiet_at_last a base proof w database conflict content c deep =
    let (v, at, start, low, last) = last_level base w.levels w.trail.places c.running.begun deep in
    let d = last.decided in
    let there = get_map seen_place w.trail.places v.start d.place d.there in
    let within = get_within w.trail.places v.start d.place d.there in
    let count : length (take v.start (seen w.trail.places)) ≡ v.start =
    length-take-le v.start (seen w.trail.places) (let n = length_seen w.trail.places in omega (arith, n, within)) in
    let quiet = (c.sound.placed v.start (seen_place d.place) there).quiet (ap is_some d.decision)
    (omega (arith, low, count)) in
    live_quiet a w.lists database (entries proof) (literals_of (take (last_start w.levels) w.trail.places)) content c.running.holds_entries
    (subst (λ n. IsQuiet (literals_of (take n w.trail.places)) (standing proof)) (sym start)
    (subst (λ ls. IsQuiet ls (standing proof)) (literals_seen_take v.start w.trail.places) quiet))

pub last_decided : (base : ℕ) (proof : ProofLog) (w : WatchState) (clauses : List Held) (database : Database) (conflict : ℕ) →
    IsInConflict base proof w clauses database conflict → 2 ≤ length w.levels → IsLastDecision w.trail.places (last_start w.levels)
last_decided base proof w clauses database conflict c deep =
    let (v, at, start, low, last) = last_level base w.levels w.trail.places c.running.begun deep in
    subst (IsLastDecision w.trail.places) (sym start) last

pub learnt_from : (base : ℕ) (proof : ProofLog) (w : WatchState) (clauses : List Held) (database : Database) (conflict : ℕ) (lits : Clause) (hints : List ℕ) →
    IsInConflict base proof w clauses database conflict → 2 ≤ length w.levels → IsLearnt clauses lits hints → IsPoint w.trail.places (last_start w.levels) lits →
    IsOwn proof.problem → NoneRefused proof.problem proof.history → LemmasAreLean proof.problem proof.history → IsLearntClause base w lits
learnt_from base proof w clauses database conflict lits hints c deep l p own right lean = record {
  spared = λ v at. plain_spared proof w.lists clauses database (take v.start w.trail.places) lits c.running.holds_entries (c.running.ground v at)
      (plain_resolvent proof.problem.vars (entries proof) lits (map (id_in clauses) (reverse hints))
      (logged_learnt w.lists clauses database (entries proof) lits hints c.running.holds_entries l).resolvent (plain_live proof.problem proof.history own right lean));
  deep = deep;
  begun = c.running.begun;
  point = p;
  range = learnt_range (entries proof) w.trail.vars lits (map (id_in clauses) (reverse hints))
      (logged_learnt w.lists clauses database (entries proof) lits hints c.running.holds_entries l) c.range;
  distinct = l.distinct;
}

pub logged_point : (places : List Place) (start : ℕ) (lits : Clause) (p : IsPoint places start lits) →
    IsLoggedPoint (seen places) start lits p.at
logged_point places start lits p = record {
  place = seen_place p.place;
  there = get_map seen_place places p.at p.place p.there;
  low = p.low;
  denied = Contains_from_get lits 0 (negation p.place.literal) p.first;
  alone = alone_from_others (seen places) start (negation p.place.literal) lits (λ m there.
      elim (All-contains (λ x. (x ≡ negation p.place.literal) ⊎ IsFalseOn (literals_of (take start places)) x) lits m p.others there) [
        | inl same ↦ inl same
        | inr lost ↦ inr (subst (λ ls. Contains ls (negation m)) (sym (literals_seen_take start places)) lost)
      ]);
}

decision_seen : (places : List Place) (at : ℕ) → IsDecisionAt places at → IsLoggedDecision (seen places) at
decision_seen places at d = record {
  place = seen_place d.place;
  there = get_map seen_place places at d.place d.there;
  decision = ap is_some d.decision;
}

pub cut_of : (base : ℕ) (old new : WatchState) (before after : List Held) (database more : Database) (id : ℕ) (origin : Origin) (lits : Clause) (u : Literal)
    (start : Level) →
    AreBegun base old.levels old.trail.places → slice_get old.levels (length old.levels - 1) ≡ Some start → 2 ≤ length old.levels →
    (h : HasTaken old new before after database more id origin lits u) → IsCut (seen old.trail.places) base start.start u lits h.end.start
cut_of base old new before after database more id origin lits u start b last deep h =
    let within = get_within old.levels h.level h.end h.at in
    let on = b.on h.level h.end h.one h.at in
    record {
      low = on.0;
      high = elim (cases_lt h.level (length old.levels - 1)) [
        | inl less ↦ let l = b.ascends h.level (length old.levels - 1) h.end start h.one less h.at last in omega (arith, l)
        | inr same ↦
            let e : h.end ≡ start = same_some h.end start
            (sym h.at ∙ ap (slice_get old.levels) (let n : h.level ≡ length old.levels - 1 = omega (arith, same, within) in n) ∙ last) in
            let s = ap (λ (x : Level). x.start) e in omega (arith, s)
      ];
      decided = decision_seen old.trail.places h.end.start on.1;
      alone = alone_from_others (seen old.trail.places) h.end.start u lits (λ m there. elim (h.alone m there) [
        | inl same ↦ inl same
        | inr lost ↦ inr (subst (λ ls. Contains ls (negation m)) (sym (literals_seen_take h.end.start old.trail.places)) lost)
      ]);
      earlier = λ j above less d. elim (cases_Bool (is_alone_at (seen old.trail.places) j u lits)) [
        | inr unlike ↦ unlike
        | inl alike ↦ absurd (
            let (p, at, is) = get_map_cases seen_place old.trail.places j d.place d.there in
            let (i, v, one, there, starts) = b.only j p above at (free p (ap (λ (x : LoggedPlace). x.implied) is ∙ d.decision)) in
            let open_yet = h.lowest i v one (lower i v one there starts less) there in
            elim (others_from_alone (seen old.trail.places) j u lits alike open_yet.literal open_yet.stands) [
              | inl same ↦ open_yet.other same
              | inr lost ↦ open_yet.not_false (subst (λ n. IsFalseOn (literals_of (take n old.trail.places)) open_yet.literal) (sym starts)
                  (subst (λ ls. Contains ls (negation open_yet.literal)) (literals_seen_take j old.trail.places) lost))
            ])
      ];
    }
  where
    free : (p : Place) → is_some p.reason ≡ false → p.reason ≡ None
    free p e = by p.reason refl e
      where
        by : (o : Option ℕ) → p.reason ≡ o → is_some o ≡ false → p.reason ≡ None
        by None is e = is
        by (Some r) is e = absurd (true≢false e)

    lower : (i : ℕ) (v : Level) → 1 ≤ i → slice_get old.levels i ≡ Some v → {j : ℕ} → v.start ≡ j → j < h.end.start → i < h.level
    lower i v one there {j} starts less = elim (cases_lt i h.level) [
      | inl before ↦ before
      | inr past ↦ elim (cases_eq h.level i) [
        | inl same ↦
            let e : h.end ≡ v = same_some h.end v (sym h.at ∙ ap (slice_get old.levels) same ∙ there) in
            absurd (let s = ap (λ (x : Level). x.start) e in omega (arith, s, starts, less))
        | inr other ↦
            let l = b.ascends h.level i h.end v h.one (omega (arith, past, λ (e : h.level ≡ i). other e)) h.at there in
            absurd (omega (arith, l, starts, less))
      ]
    ]

-- ---- the trail after the learnt clause

last_true : (ps : List Place) (p : Place) → IsTrueOn (literals_of (ps ++ p ∷ [])) p.literal
last_true ps p = Contains_from_get (literals_of (ps ++ p ∷ [])) (length ps) p.literal (at_last ps)
  where
    at_last : (qs : List Place) → slice_get (literals_of (qs ++ p ∷ [])) (length qs) ≡ Some p.literal
    at_last [] = refl
    at_last (q ∷ qs) = at_last qs

pub place_apart : (before after : List Held) (r q : ℕ) → KeepsOthers before after r → held_at before r ≡ None → is_live before q ≡ true → q ≢ r
place_apart before after r q others fresh live e = false≢true (ap is_some (sym fresh ∙ ap (held_at before) (sym e)) ∙ live)

pub seen_after : (old new : WatchState) (before after : List Held) (database more : Database) (id : ℕ) (origin : Origin) (lits : Clause) (u : Literal) →
    (h : HasTaken old new before after database more id origin lits u) →
    seen new.trail.places ≡ take h.end.start (seen old.trail.places) ++ record { literal = u; implied = true } ∷ []
seen_after old new before after database more id origin lits u h =
    let p : Place = record { literal = u; reason = Some h.ref; level = length (take h.level old.levels) } in
    ap seen (ap (λ (t : TrailState). t.places) h.joined.trail ∙ h.places) ∙
    map-append seen_place (take h.end.start old.trail.places) (p ∷ []) ∙
    ap (λ ps. ps ++ record { literal = u; implied = true } ∷ []) (sym (take_seen h.end.start old.trail.places))

pub running_after : (base : ℕ) (old new : WatchState) (before after : List Held) (database more : Database) (id : ℕ) (origin : Origin) (lits : Clause) (u : Literal)
    (proof : ProofLog) (es : List Entry) →
    HoldsEntries old.lists before database es → IsReasoned before old.trail.places → AreBegun base old.levels old.trail.places →
    AreSatisfied database.shorts.items before old.levels old.trail.places →
    ((v : Level) → slice_get old.levels 0 ≡ Some v → IsGround es database.shorts.items before (take v.start old.trail.places)) →
    Contains lits u → entry_of es id ≡ None → entries proof ≡ es ++ record { id = id; origin = origin; literals = lits } ∷ [] →
    (h : HasTaken old new before after database more id origin lits u) →
    IsRunning base proof new after more
running_after base old new before after database more id origin lits u proof es s reasoned begun satisfied ground u_in free stands h =
    let p : Place = record { literal = u; reason = Some h.ref; level = length (take h.level old.levels) } in
    let front : List Place = take h.end.start old.trail.places in
    let places : new.trail.places ≡ front ++ p ∷ [] = ap (λ (t : TrailState). t.places) h.joined.trail ∙ h.places in
    let levels : new.levels ≡ take h.level old.levels = h.joined.levels ∙ h.levels in
    let cut = begun_cut base h.level old.levels old.trail.places h.end begun h.one h.at in
    record {
      holds_entries = subst (HoldsEntries new.lists after more) (sym stands)
          (holds_joined h.middle new before after database more es h.ref (record { id = id; origin = origin; literals = lits })
          (subst (λ ls. HoldsEntries ls before database es) (sym h.lists) s) free h.others h.fresh h.live h.id_is h.same h.joined h.rows);
      serves = h.joined.serves;
      begun = subst (λ ls. AreBegun base ls new.trail.places) (sym levels) (subst (AreBegun base (take h.level old.levels)) (sym places)
          (begun_implied base h.ref (take h.level old.levels) front p cut refl));
      satisfied = record {
        now = λ r there. subst (λ ps. HasTrue (literals_of ps) (literals_at after r)) (sym places) (now r there);
        below = λ r v there e.
            let found : slice_get (take h.level old.levels) 1 ≡ Some v = subst (λ ls. slice_get ls 1 ≡ Some v) levels e in
            elim (h.joined.listed r there) [
              | inl was ↦
                  let t = (satisfied_cut database.shorts.items before base h.level old.levels old.trail.places h.end satisfied begun h.one h.at).below r v was found in
                  let on = cut.on 1 v (omega arith) found in
                  let within = get_within front v.start on.1.place on.1.there in
                  subst (λ ps. HasTrue (literals_of ps) (literals_at after r))
                  (sym (ap (take v.start) places ∙ take-append-le v.start front (p ∷ []) (omega (arith, within))))
                  (carried r was (literals_of (take v.start front)) t)
              | inr here ↦ absurd (let one = h.unit here.1 in let inside = get_take h.level old.levels 1 v found in let less = inside.0 in
                  omega (arith, one, less))
            ];
      };
      reasoned = subst (IsReasoned after) (sym places) (reasoned_push after front p
          (reasoned_kept before after front (λ k q r e is.
          let found = get_take h.end.start old.trail.places k q e in
          h.others.kept r (place_apart before after h.ref r h.others h.fresh (reasoned.reasoned k q r found.1 is).0))
          (reasoned_take before old.trail.places h.end.start reasoned))
          (λ r is. subst (λ x. (is_some (held_at after x) ≡ true) × Implies (literals_of front) (literals_at after x) u) (same_some h.ref r is)
          (h.live, implies)));
      ground = λ v e.
          let was : slice_get old.levels 0 ≡ Some v = (get_take h.level old.levels 0 v (subst (λ ls. slice_get ls 0 ≡ Some v) levels e)).1 in
          let f = begun.first v was in
          let on = begun.on h.level h.end h.one h.at in
          let within = get_within old.trail.places h.end.start on.1.place on.1.there in
          let count : length front ≡ h.end.start = length-take-le h.end.start old.trail.places (omega (arith, within)) in
          let below : v.start ≤ h.end.start = let low = f.0 in let high = on.0 in omega (arith, low, high) in
          let same : take v.start new.trail.places ≡ take v.start old.trail.places =
          ap (take v.start) places ∙ take-append-le v.start front (p ∷ []) (omega (arith, below, count)) ∙
          take-take v.start h.end.start old.trail.places below in
          subst (λ ps. IsGround (entries proof) more.shorts.items after ps) (sym same)
          (subst (λ xs. IsGround xs more.shorts.items after (take v.start old.trail.places))
          (sym stands) (ground_added old.lists before after database more.shorts.items es (record { id = id; origin = origin; literals = lits }) h.ref
          (take v.start old.trail.places) s h.others h.fresh (λ k q less at. h.joined.front k q at) (ground v was)));
    }
  where
    implies : Implies (literals_of (take h.end.start old.trail.places)) (literals_at after h.ref) u
    implies = record {
      stands = Contains-permutation lits (literals_at after h.ref) u h.same u_in;
      unassigned = h.free;
      others = All-permutation (λ m. (m ≡ u) ⊎ IsFalseOn (literals_of (take h.end.start old.trail.places)) m) lits (literals_at after h.ref) h.same
          (all_from (λ m. (m ≡ u) ⊎ IsFalseOn (literals_of (take h.end.start old.trail.places)) m) lits h.alone);
    }

    carried : (r : ℕ) → Contains database.shorts.items r → (trail : List Literal) → HasTrue trail (literals_at before r) → HasTrue trail (literals_at after r)
    carried r there trail t =
        subst (HasTrue trail) (sym (ap (λ o. unwrap_or (option_map (λ (x : Held). x.literals) o) [])
        (h.others.kept r (place_apart before after h.ref r h.others h.fresh
        (All-contains (λ x. is_live before x ≡ true) database.shorts.items r s.listed there))))) t

    now : (r : ℕ) → Contains more.shorts.items r →
        HasTrue (literals_of (take h.end.start old.trail.places ++ record { literal = u; reason = Some h.ref; level = length (take h.level old.levels) } ∷ []))
        (literals_at after r)
    now r there = elim (h.joined.listed r there) [
      | inl was ↦ true_left (take h.end.start old.trail.places)
          (record { literal = u; reason = Some h.ref; level = length (take h.level old.levels) } ∷ []) (literals_at after r)
          (carried r was (literals_of (take h.end.start old.trail.places))
          ((satisfied_cut database.shorts.items before base h.level old.levels old.trail.places h.end satisfied begun h.one h.at).now r was))
      | inr here ↦ subst (λ x. HasTrue
          (literals_of (take h.end.start old.trail.places ++ record { literal = u; reason = Some h.ref; level = length (take h.level old.levels) } ∷ []))
          (literals_at after x)) (sym here.0) (record {
            literal = u;
            stands = Contains-permutation lits (literals_at after h.ref) u h.same u_in;
            holds = last_true (take h.end.start old.trail.places) (record { literal = u; reason = Some h.ref; level = length (take h.level old.levels) });
          })
    ]

-- ---- the lemma in the log

pub learns_from : (old_proof new_proof : ProofLog) (old new : WatchState) (before after : List Held) (database more : Database) (conflict id : ℕ) (lits : Clause)
    (hints : List ℕ) →
    length old.trail.places ≤ old.trail.vars → 2 ≤ length old.levels → IsLearnt before lits hints → IsPoint old.trail.places (last_start old.levels) lits →
    JumpsBack old new before after database more id lits → id ≡ next_id old_proof → entry_of (entries old_proof) id ≡ None →
    new_proof ≡ with_lemma old_proof id lits (map (id_in before) (reverse hints)) →
    entries new_proof ≡ entries old_proof ++ record { id = id; origin = FromConflict; literals = lits } ∷ [] →
    entry_of (entries new_proof) id ≡ Some (record { id = id; origin = FromConflict; literals = lits }) →
    LearnsFrom old_proof new_proof old new before after database more conflict
learns_from old_proof new_proof old new before after database more conflict id lits hints room deep l p taken next free is_new grown entry =
    let u : Literal = negation p.place.literal in
    let h = taken.taken u p.first in
    let vars : new.trail.vars ≡ old.trail.vars = ap (λ (t : TrailState). t.vars) h.joined.trail ∙ h.vars in
    record {
      vars = vars;
      learnt = λ base c.
          let (v, at, start, low, last) = last_level base old.levels old.trail.places c.running.begun deep in
          let cut = cut_of base old new before after database more id FromConflict lits u v c.running.begun at deep h in
          let point = subst (λ n. IsLoggedPoint (seen old.trail.places) n lits p.at) start
          (logged_point old.trail.places (last_start old.levels) lits p) in
          let places = seen_after old new before after database more id FromConflict lits u h in
          let after_is : seen_trail new ≡ record {
            vars = old.trail.vars;
            places = take h.end.start (seen old.trail.places) ++ record { literal = u; implied = true } ∷ [];
          } = λ i. record { vars = vars i; places = places i } in
          subst (HasLearnt base old_proof new_proof (seen_trail old)) (sym after_is)
          (has_learnt old_proof new_proof old.trail.vars base v.start h.end.start p.at id (seen old.trail.places) lits (map (id_in before) (reverse hints)) u
          c.sound c.given c.range low (let n = length_seen old.trail.places in omega (arith, n, room))
          (logged_learnt old.lists before database (entries old_proof) lits hints c.running.holds_entries l) point
          (ap (λ (x : LoggedPlace). negation x.literal) (same_some (seen_place p.place) point.place
          (sym (get_map seen_place old.trail.places p.at p.place p.there) ∙ point.there))) cut (record {
            hints = map (id_in before) (reverse hints);
            proof = is_new;
            next = next;
            grown = grown;
            stands = stands_grown old_proof new_proof (record { id = id; origin = FromConflict; literals = lits }) grown;
            entry = entry;
          }));
      running = λ base c.
          running_after base old new before after database more id FromConflict lits u new_proof
          (entries old_proof) c.running.holds_entries c.running.reasoned c.running.begun c.running.satisfied c.running.ground
          (Contains_from_get lits 0 u p.first) free grown h;
    }

-- no standing clause is contained in the lemma
pub lemma_is_new : (base : ℕ) (proof : ProofLog) (old new : WatchState) (before after : List Held) (database more : Database) (conflict id : ℕ) (lits : Clause) →
    IsInConflict base proof old before database conflict → 2 ≤ length old.levels → IsPoint old.trail.places (last_start old.levels) lits →
    JumpsBack old new before after database more id lits → IsNew proof.problem proof.history lits
lemma_is_new base proof old new before after database more conflict id lits c deep p taken =
    let u : Literal = negation p.place.literal in
    let h = taken.taken u p.first in
    let (v, at, start, low, last) = last_level base old.levels old.trail.places c.running.begun deep in
    let cut = cut_of base old new before after database more id FromConflict lits u v c.running.begun at deep h in
    let point = subst (λ n. IsLoggedPoint (seen old.trail.places) n lits p.at) start
    (logged_point old.trail.places (last_start old.levels) lits p) in
    learnt_is_new proof base v.start h.end.start p.at (seen old.trail.places) lits u c.sound point
    (ap (λ (x : LoggedPlace). negation x.literal) (same_some (seen_place p.place) point.place
    (sym (get_map seen_place old.trail.places p.at p.place p.there) ∙ point.there))) cut

pub lemma_range : (base : ℕ) (proof : ProofLog) (w : WatchState) (clauses : List Held) (database : Database) (conflict : ℕ) (lits : Clause) (hints : List ℕ) →
    IsInConflict base proof w clauses database conflict → w.trail.vars < 2 ^ 30 → IsLearnt clauses lits hints → All HasVariable lits
lemma_range base proof w clauses database conflict lits hints c bound l =
    have_variables w.trail.vars lits bound (learnt_range (entries proof) w.trail.vars lits (map (id_in clauses) (reverse hints))
    (logged_learnt w.lists clauses database (entries proof) lits hints c.running.holds_entries l) c.range)

pub entry_again : (proof : ProofLog) (id other : ℕ) (lits : Clause) → id ≡ other →
    entry_of (live proof.problem proof.history) id ≡ Some (record { id = id; origin = FromConflict; literals = lits }) →
    entry_of (live proof.problem proof.history) other ≡ Some (record { id = other; origin = FromConflict; literals = lits })
entry_again proof id other lits same e =
    subst (λ n. entry_of (live proof.problem proof.history) n ≡ Some (record { id = n; origin = FromConflict; literals = lits })) same e

pub grown_again : (old new : ProofLog) (id other : ℕ) (lits : Clause) → id ≡ other →
    entries new ≡ entries old ++ record { id = id; origin = FromConflict; literals = lits } ∷ [] →
    entries new ≡ entries old ++ record { id = other; origin = FromConflict; literals = lits } ∷ []
grown_again old new id other lits same e =
    subst (λ n. entries new ≡ entries old ++ record { id = n; origin = FromConflict; literals = lits } ∷ []) same e
