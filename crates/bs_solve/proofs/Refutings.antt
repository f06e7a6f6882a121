-- The end of a search.
use Rattle.std.proofs.Common.{◌≡◌, ℕ, ◌+◌, ◌≤◌, arith, Bool, true, false, List, [], ◌∷◌, ◌++◌, map, reverse, length, take, refl, sym, ap, subst, ◌∙◌, inl, inr, ◌⊎◌, Option, Some, None}
use Rattle.std.specs.Prelude.{All, Contains, slice_get, is_some, IfSome}
use Rattle.std.proofs.lemmas.Bool.{true≢false}
use Rattle.std.proofs.lemmas.List.{length_push, length-map}
use Rattle.bs_clause.specs.Literal.{Literal, Clause, negation, has_literal}
use Rattle.bs_clause.proofs.Literals.{has-from_Contains}
use Rattle.std.proofs.lemmas.List.Elements.{All-push, All-contains}
use Rattle.std.proofs.lemmas.List.Sorted.{All-permutation}
use Rattle.bs_clause.specs.Range.{IsWithin, HasVariables}
use Rattle.bs_log.specs.declared.origin.Origin.TheVariants.{Learnt as FromConflict}
use Rattle.bs_log.specs.History.{Entry, live}
use Rattle.bs_log.specs.Refusal.{has_distinct_variables, entry_of}
use Rattle.bs_log.specs.Lean.{IsNew}
use Rattle.bs_arena.specs.Arena.{Held, held_at, literals_at}
use Rattle.bs_solve.specs.FirstLevel.{AreShort}
use Rattle.bs_watch.specs.declared.visit.Outcome.{Outcome}
use Rattle.bs_watch.specs.declared.visit.Outcome.TheVariants.{Quiet, Conflict}
use Rattle.bs_watch.specs.declared.watch.Level.{Level}
use Rattle.bs_watch.specs.Trail.{IsTrueOn, IsOpenOn, IsOpenVariable, AreAssignedBelow}
use Rattle.bs_watch.specs.Places.{Place, TrailState, IsUnassigned, AreApart, literals_of}
use Rattle.bs_watch.specs.Tables.{AreDistinct}
use Rattle.bs_watch.specs.Watch.{WatchState, Serves, HasGoneBack}
use Rattle.bs_watch.proofs.TableLemmas.{at_most, open_apart}
use Rattle.bs_solve_lemmas.specs.ImplicationPoint.{IsReasonless}
use Rattle.bs_solve_lemmas.specs.AnalysisWalk.{IsLearnt}
use Rattle.bs_solve_lemmas.specs.Point.{IsLoggedReasonless}
use Rattle.bs_solve_lemmas.specs.ProofLog.{ProofLog, standing, next_id, with_lemma}
use Rattle.bs_solve_lemmas.specs.Values.{positive, AreAssigned, HasValues}
use Rattle.bs_solve_lemmas.specs.Ending.{SomeLemmas}
use Rattle.bs_solve_lemmas.specs.declared.answer.Answer.TheVariants.{Found, Refuted, Spent}
use Rattle.bs_watch.proofs.Gets.{some_at, none_is_not_some, same_some, get_map_cases, get_map, get_take, get_push_cases, get_from_Contains}
use Rattle.bs_solve_lemmas.proofs.Clauses.{all_from, map_contains}
use Rattle.bs_solve_lemmas.proofs.Searching.{learnt_range, ending_lemma}
use Rattle.bs_solve_lemmas.proofs.Endings.{search_finds, refuted_ranges, refuted_distinct, search_is_spent, learnt_ranges, learnt_distinct, some_lemmas, one_more, no_lemmas}
use Rattle.bs_solve.specs.declared.database.Database.{Database}
use Rattle.bs_solve.specs.Database.{entries, id_in, HoldsEntries}
use Rattle.bs_solve.proofs.Entries.{stands_grown}
use Rattle.bs_solve_lemmas.proofs.Entries.{found_stands}
use Rattle.bs_solve.specs.Seen.{seen_place, seen}
use Rattle.bs_solve.specs.Ground.{HasAdded, IsGround, IsOff}
use Rattle.bs_solve.specs.Running.{seen_trail, IsRunning, InRound}
use Rattle.bs_solve.specs.Learning.{IsAtRest, LearnsFrom}
use Rattle.bs_solve.specs.Searching.{IsFirstConflict, IsOver, HasEndedBy}
use Rattle.bs_solve.specs.Pausing.{IsPaused}
use Rattle.bs_solve.proofs.Seens.{literals_seen, length_seen}
use Rattle.bs_solve.proofs.LearningLemmas.{logged_learnt}
use Rattle.bs_solve.proofs.Rounds.{conflict_in, learnt_in}

-- ---- the trail goes back to what stands for good

pub gone_back_to : (w mid : WatchState) (v : Level) → slice_get w.levels 0 ≡ Some v → IfSome (slice_get w.levels 0) (HasGoneBack w mid) →
    (mid.trail.places ≡ take v.start w.trail.places) × (mid.trail.vars ≡ w.trail.vars)
gone_back_to w mid v at back =
    let h = subst (λ o. IfSome o (HasGoneBack w mid)) at back in
    (ap (λ (t : TrailState). t.places) h.trail, ap (λ (t : TrailState). t.vars) h.trail)

pub gone_vars : (w mid : WatchState) → 1 ≤ length w.levels → IfSome (slice_get w.levels 0) (HasGoneBack w mid) → mid.trail.vars ≡ w.trail.vars
gone_vars w mid some back = let (v, at) = some_at w.levels 0 (omega (arith, some)) in (gone_back_to w mid v at back).1

pub at_rest : (base : ℕ) (proof : ProofLog) (w mid : WatchState) (clauses : List Held) (database : Database) → IsRunning base proof w clauses database →
    mid.levels ≡ take 0 w.levels → mid.lists ≡ w.lists → IfSome (slice_get w.levels 0) (HasGoneBack w mid) → Serves mid clauses →
    IsAtRest proof mid clauses database
at_rest base proof w mid clauses database r levels lists back serves = record {
  holds_entries = subst (λ ls. HoldsEntries ls clauses database (entries proof)) (sym lists) r.holds_entries;
  serves = serves;
  ground =
      let (v, at) = some_at w.levels 0 (let some = r.begun.some in omega (arith, some)) in
      subst (IsGround (entries proof) database.shorts.items clauses) (sym (gone_back_to w mid v at back).0) (r.ground v at);
  levels = levels;
}

-- ---- the last lemma

-- what no clause implied stands behind what stands for good
pub lemma_off : (base : ℕ) (proof : ProofLog) (w mid : WatchState) (clauses : List Held) (database : Database) (conflict : ℕ) (lits : Clause) →
    IsFirstConflict base proof w clauses database conflict → AreApart w.trail.places → IfSome (slice_get w.levels 0) (HasGoneBack w mid) →
    All (λ l. IsReasonless w.trail.places (negation l)) lits → IsOff mid.trail.places lits
lemma_off base proof w mid clauses database conflict lits c apart back free =
    let (v, at) = some_at w.levels 0 (let some = c.some in omega (arith, some)) in
    subst (λ ps. IsOff ps lits) (sym (gone_back_to w mid v at back).0) (all_from (IsOpenOn (literals_of (take v.start w.trail.places))) lits (λ l there.
    let u = All-contains (λ x. IsReasonless w.trail.places (negation x)) lits l free there in
    let gone : (x : Literal) → x.variable ≡ l.variable → ¬ IsTrueOn (literals_of (take v.start w.trail.places)) x = λ x same holds.
    let (k, found) = get_from_Contains (literals_of (take v.start w.trail.places)) x holds in
    let (p, here, is) = get_map_cases (λ (y : Place). y.literal) (take v.start w.trail.places) k x found in
    let (before, in_all) = get_take v.start w.trail.places k p here in
    let unit = (c.ground v at).each k p here in
    let one : k ≡ u.at = apart.apart k u.at p u.place in_all u.there
    (ap (λ (y : Literal). y.variable) is ∙ same ∙ sym (ap (λ (y : Literal). y.variable) u.same)) in
    let place : p ≡ u.place = same_some p u.place (sym in_all ∙ ap (slice_get w.trail.places) one ∙ u.there) in
    none_is_not_some unit.ref (sym u.free ∙ ap (λ (y : Place). y.reason) (sym place) ∙ unit.reason) in
    (gone l refl, gone (negation l) refl)))

pub reasonless_seen : (places : List Place) (lits : Clause) → All (λ l. IsReasonless places (negation l)) lits →
    All (λ l. IsLoggedReasonless (seen places) (negation l)) lits
reasonless_seen places lits all = λ k d h.
    let x = all k d h in
    record {
      at = x.at;
      place = seen_place x.place;
      there = get_map seen_place places x.at x.place x.there;
      same = x.same;
      free = ap is_some x.free;
    }

pub last_learnt : (base : ℕ) (proof : ProofLog) (w : WatchState) (clauses : List Held) (database : Database) (conflict : ℕ) (lits : Clause) (hints : List ℕ) →
    IsFirstConflict base proof w clauses database conflict → IsLearnt clauses lits hints → HasVariables w.trail.vars lits
last_learnt base proof w clauses database conflict lits hints c l =
    learnt_range (entries proof) w.trail.vars lits (map (id_in clauses) (reverse hints))
    (logged_learnt w.lists clauses database (entries proof) lits hints c.holds_entries l) c.range

pub last_is_new : (base : ℕ) (proof : ProofLog) (w : WatchState) (clauses : List Held) (database : Database) (conflict : ℕ) (lits : Clause) →
    IsFirstConflict base proof w clauses database conflict → All (λ l. IsReasonless w.trail.places (negation l)) lits → IsNew proof.problem proof.history lits
last_is_new base proof w clauses database conflict lits c free =
    inl (ending_lemma proof base (seen w.trail.places) lits c.sound c.implied (reasonless_seen w.trail.places lits free))

pub ended_by : (base : ℕ) (proof new_proof : ProofLog) (w mid new : WatchState) (clauses after : List Held) (database more : Database) (conflict id other : ℕ)
    (lits : Clause)
    (hints : List ℕ) → IsFirstConflict base proof w clauses database conflict → IsLearnt clauses lits hints →
    All (λ l. IsReasonless w.trail.places (negation l)) lits →
    mid.levels ≡ take 0 w.levels → mid.lists ≡ w.lists → IfSome (slice_get w.levels 0) (HasGoneBack w mid) →
    Serves new after → new.trail ≡ mid.trail → new.levels ≡ mid.levels → HasAdded mid.lists new.lists clauses after database more
    (record { id = other; origin = FromConflict; literals = lits }) → other ≡ id → entry_of (entries proof) other ≡ None → id ≡ next_id proof →
    new_proof ≡ with_lemma proof id lits (map (id_in clauses) (reverse hints)) →
    entries new_proof ≡ entries proof ++ record { id = id; origin = FromConflict; literals = lits } ∷ [] →
    entry_of (live new_proof.problem new_proof.history) id ≡ Some (record { id = id; origin = FromConflict; literals = lits }) →
    HasEndedBy proof new_proof w.trail.vars new after more id
ended_by base proof new_proof w mid new clauses after database more conflict id other lits hints c l free levels lists back serves trail new_levels holds_entries
    is_other unused is line grown entry =
    let (v, at) = some_at w.levels 0 (let some = c.some in omega (arith, some)) in
    let (places, vars) = gone_back_to w mid v at back in
    record {
      refuted = record {
        lemma = lits;
        logged = record {
          hints = map (id_in clauses) (reverse hints);
          proof = line;
          next = is;
          grown = grown;
          stands = stands_grown proof new_proof (record { id = id; origin = FromConflict; literals = lits }) grown;
          entry = entry;
        };
        ends = ending_lemma proof base (seen w.trail.places) lits c.sound c.implied (reasonless_seen w.trail.places lits free);
        distinct = l.distinct;
        range = λ n range. learnt_range (entries proof) n lits (map (id_in clauses) (reverse hints))
            (logged_learnt w.lists clauses database (entries proof) lits hints c.holds_entries l) range;
      };
      rest = record {
        holds_entries = subst (HoldsEntries new.lists after more)
            (ap (λ n. entries proof ++ record { id = n; origin = FromConflict; literals = lits } ∷ []) is_other ∙ sym grown)
            (holds_entries.more (entries proof) unused (subst (λ ls. HoldsEntries ls clauses database (entries proof)) (sym lists) c.holds_entries));
        serves = serves;
        ground = subst (IsGround (entries new_proof) more.shorts.items after) (sym (ap (λ (t : TrailState). t.places) trail ∙ places))
            (subst (λ es. IsGround es more.shorts.items after (take v.start w.trail.places))
            (ap (λ n. entries proof ++ record { id = n; origin = FromConflict; literals = lits } ∷ []) is_other ∙ sym grown)
            (holds_entries.ground (entries proof) unused (subst (λ ls. HoldsEntries ls clauses database (entries proof)) (sym lists) c.holds_entries) (take v.start w.trail.places)
            (c.ground v at)));
        levels = new_levels ∙ levels;
      };
      vars_is = ap (λ (t : TrailState). t.vars) trail ∙ vars;
    }

-- ---- the answers

assigned_logged : (trail : List Literal) (vars : ℕ) → AreAssignedBelow trail (vars + 1) → AreAssigned trail vars
assigned_logged trail vars all = λ v low high. elim (all.each (positive v) low (omega (arith, high))) [
  | inl t ↦ inl (has-from_Contains trail (positive v) t)
  | inr f ↦ inr (has-from_Contains trail (negation (positive v)) f)
]

pub all_assigned : (w : WatchState) → AreAssignedBelow (literals_of w.trail.places) (w.trail.vars + 1) → AreAssigned (literals_of w.trail.places) w.trail.vars
all_assigned w all = assigned_logged (literals_of w.trail.places) w.trail.vars all

-- the trail stays
pub paused_in : (old : ProofLog) (vars base conflicts limit : ℕ) (proof : ProofLog) (w : WatchState) (clauses : List Held) (database : Database) (o : Outcome) →
    InRound old vars base conflicts limit proof w clauses database o → IsPaused base proof w clauses database
paused_in old vars base conflicts limit proof w clauses database o t = record {
  running = t.running;
  sound = t.search.sound;
  given = t.search.given;
  low = let l = t.search.low in let n = length_seen w.trail.places in omega (arith, l, n);
}

pub over_found : (old : ProofLog) (vars base conflicts limit : ℕ) (proof : ProofLog) (w now : WatchState) (clauses : List Held) (database : Database)
    (values : List (Option Bool)) →
    InRound old vars base conflicts limit proof w clauses database Quiet → now ≡ w → AreAssigned (literals_of w.trail.places) w.trail.vars →
    HasValues (literals_of now.trail.places) vars values → IsOver old proof vars limit now clauses database (Found values)
over_found old vars base conflicts limit proof w now clauses database values t same all has = record {
  ends = search_finds old vars base conflicts limit proof (seen w.trail.places) values t.search
      (subst (λ ls. AreAssigned ls vars) (sym (literals_seen w.trail.places)) (subst (AreAssigned (literals_of w.trail.places)) t.vars_is all))
      (subst (λ ls. HasValues ls vars values) (sym (literals_seen w.trail.places))
      (subst (λ (x : WatchState). HasValues (literals_of x.trail.places) vars values) same has));
  left = inr (base, subst (λ x. IsPaused base proof x clauses database) (sym same) (paused_in old vars base conflicts limit proof w clauses database Quiet t));
  vars_is = ap (λ (x : WatchState). x.trail.vars) same ∙ t.vars_is;
  range = t.search.range;
  distinct = t.search.distinct;
}

pub over_spent : (old : ProofLog) (vars base conflicts limit r : ℕ) (proof new_proof : ProofLog) (w mid rest : WatchState) (clauses later : List Held)
    (database more : Database) →
    InRound old vars base conflicts limit proof w clauses database (Conflict r) → LearnsFrom proof new_proof w mid clauses later database more r → conflicts + 1 ≡ limit →
    rest.levels ≡ take 0 mid.levels → rest.lists ≡ mid.lists → IfSome (slice_get mid.levels 0) (HasGoneBack mid rest) → Serves rest later →
    IsOver old new_proof vars limit rest later more Spent
over_spent old vars base conflicts limit r proof new_proof w mid rest clauses later database more t h all levels lists back serves =
    let c = conflict_in old vars base conflicts limit proof w clauses database r t in
    let learnt = learnt_in vars base proof new_proof w mid t.vars_is (h.learnt base c) in
    let running = h.running base c in
    record {
      ends = search_is_spent old vars base conflicts limit proof new_proof (seen w.trail.places) (seen_trail mid)
          false t.search learnt all;
      left = at_rest base new_proof mid rest later more running levels lists back serves;
      vars_is = gone_vars mid rest running.begun.some back ∙ h.vars ∙ t.vars_is;
      range = subst (λ n. All (HasVariables n) (standing new_proof)) (h.vars ∙ t.vars_is)
          (learnt_ranges old vars base conflicts limit proof new_proof (seen w.trail.places)
          (record { vars = vars; places = seen w.trail.places }) (seen_trail mid) false t.search learnt refl);
      distinct = learnt_distinct old vars base conflicts limit proof new_proof (seen w.trail.places)
          (record { vars = vars; places = seen w.trail.places }) (seen_trail mid) false t.search learnt;
    }

pub over_refuted : (old : ProofLog) (vars base conflicts limit r id : ℕ) (proof new_proof : ProofLog) (w new : WatchState) (clauses after : List Held)
    (database more : Database) →
    InRound old vars base conflicts limit proof w clauses database (Conflict r) → HasEndedBy proof new_proof w.trail.vars new after more id →
    IsOver old new_proof vars limit new after more (Refuted id)
over_refuted old vars base conflicts limit r id proof new_proof w new clauses after database more t e = record {
  ends = record { middle = proof; count = conflicts; before = t.search.logged; under = t.search.under; last = e.refuted };
  left = e.rest;
  vars_is = e.vars_is ∙ t.vars_is;
  range = refuted_ranges vars proof new_proof id e.refuted t.search.range;
  distinct = refuted_distinct proof new_proof id e.refuted t.search.distinct;
}

-- ---- there is room for a level

pub open_room : (w : WatchState) (l : Literal) → AreApart w.trail.places → HasVariables w.trail.vars (literals_of w.trail.places) →
    IsOpenOn (literals_of w.trail.places) l → 1 ≤ l.variable → l.variable ≤ w.trail.vars → length w.trail.places + 1 ≤ w.trail.vars
open_room w l apart range open_l low high =
    let ls : List Literal = literals_of w.trail.places in
    let all : HasVariables w.trail.vars (ls ++ l ∷ []) = All-push (IsWithin w.trail.vars) ls l range (low, high) in
    let most = at_most w.trail.vars (ls ++ l ∷ []) (distinct_push ls l (distinct_of w.trail.places apart) open_l) all in
    let n = length_push ls l in
    let m = length-map w.trail.places (λ (p : Place). p.literal) in
    omega (arith, most, n, m)
  where
    distinct_of : (ps : List Place) → AreApart ps → AreDistinct (literals_of ps)
    distinct_of ps apart = record {
      apart = λ i j x y at_i at_j same.
          let (p, in_i, is_p) = get_map_cases (λ (z : Place). z.literal) ps i x at_i in
          let (q, in_j, is_q) = get_map_cases (λ (z : Place). z.literal) ps j y at_j in
          apart.apart i j p q in_i in_j (ap (λ (z : Literal). z.variable) is_p ∙ same ∙ sym (ap (λ (z : Literal). z.variable) is_q));
    }

    distinct_push : (ls : List Literal) (x : Literal) → AreDistinct ls → IsOpenOn ls x → AreDistinct (ls ++ x ∷ [])
    distinct_push ls x d o = record {
      apart = λ i j y z at_i at_j same. elim (get_push_cases ls x y i at_i) [
        | inl in_i ↦ elim (get_push_cases ls x z j at_j) [
          | inl in_j ↦ d.apart i j y z in_i in_j same
          | inr last ↦ absurd (open_apart ls x o i y in_i (same ∙ ap (λ (m : Literal). m.variable) (sym last.1)))
        ]
        | inr last ↦ elim (get_push_cases ls x z j at_j) [
          | inl in_j ↦ absurd (open_apart ls x o j z in_j (sym same ∙ ap (λ (m : Literal). m.variable) (sym last.1)))
          | inr also ↦ last.0 ∙ sym also.0
        ]
      ];
    }

pub level_room : (w : WatchState) (l : Literal) → AreApart w.trail.places → HasVariables w.trail.vars (literals_of w.trail.places) →
    IsOpenOn (literals_of w.trail.places) l → 1 ≤ l.variable → l.variable ≤ w.trail.vars → length w.levels ≤ length w.trail.places + 1 →
    length w.levels ≤ w.trail.vars
level_room w l apart range open_l low high few = let room = open_room w l apart range open_l low high in omega (arith, room, few)

-- each literal of an open variable is open
pub open_literal : (t : TrailState) (v : ℕ) (l : Literal) → IsOpenVariable (literals_of t.places) t.vars v → l.variable ≡ v → IsUnassigned t l
open_literal t v l o same = record { in_range = subst (λ n. n ≤ t.vars) (sym same) o.in_range; unassigned = o.here l same }

-- a full trail
pub full_assigned : (w : WatchState) → AreApart w.trail.places → HasVariables w.trail.vars (literals_of w.trail.places) →
    length w.trail.places ≡ w.trail.vars → AreAssigned (literals_of w.trail.places) w.trail.vars
full_assigned w apart range full = λ v low high.
    by v low high (has_literal (literals_of w.trail.places) (positive v)) refl (has_literal (literals_of w.trail.places) (negation (positive v))) refl
  where
    out : (x : Literal) → has_literal (literals_of w.trail.places) x ≡ false → ¬ Contains (literals_of w.trail.places) x
    out x off there = true≢false (sym (has-from_Contains (literals_of w.trail.places) x there) ∙ off)

    by : (v : ℕ) → 1 ≤ v → v ≤ w.trail.vars → (a : Bool) → has_literal (literals_of w.trail.places) (positive v) ≡ a → (b : Bool) →
        has_literal (literals_of w.trail.places) (negation (positive v)) ≡ b →
        (has_literal (literals_of w.trail.places) (positive v) ≡ true) ⊎ (has_literal (literals_of w.trail.places) (negation (positive v)) ≡ true)
    by v low high true is_a b is_b = inl is_a
    by v low high false is_a true is_b = inr is_b
    by v low high false is_a false is_b =
        absurd (let room = open_room w (positive v) apart range (out (positive v) is_a, out (negation (positive v)) is_b) low high in
        omega (arith, room, full))

-- ---- what was logged

pub logged_after : (old : ProofLog) (vars base conflicts limit r : ℕ) (proof new_proof : ProofLog) (w mid : WatchState) (clauses later : List Held)
    (database more : Database) →
    InRound old vars base conflicts limit proof w clauses database (Conflict r) → LearnsFrom proof new_proof w mid clauses later database more r → SomeLemmas old new_proof
logged_after old vars base conflicts limit r proof new_proof w mid clauses later database more t h =
    let c = conflict_in old vars base conflicts limit proof w clauses database r t in
    let learnt = h.learnt base c in
    some_lemmas old new_proof (conflicts + 1) (one_more old proof new_proof conflicts learnt.id learnt.lemma t.search.logged learnt.logged learnt.open_yet)

pub over_at_once : (proof new_proof : ProofLog) (vars limit id : ℕ) (w new : WatchState) (after : List Held) (more : Database) → 1 ≤ limit →
    All (HasVariables vars) (standing proof) → All (λ c. has_distinct_variables c ≡ true) (standing proof) →
    HasEndedBy proof new_proof w.trail.vars new after more id → w.trail.vars ≡ vars → IsOver proof new_proof vars limit new after more (Refuted id)
over_at_once proof new_proof vars limit id w new after more one range distinct e is = record {
  ends = record { middle = proof; count = 0; before = no_lemmas proof; under = one; last = e.refuted };
  left = e.rest;
  vars_is = e.vars_is ∙ is;
  range = refuted_ranges vars proof new_proof id e.refuted range;
  distinct = refuted_distinct proof new_proof id e.refuted distinct;
}

pub are_short : (proof : ProofLog) (w : WatchState) (clauses : List Held) (database : Database) → IsAtRest proof w clauses database →
    All (HasVariables w.trail.vars) (standing proof) →
    AreShort w.trail.vars clauses database.shorts.items
are_short proof w clauses database r range = record {
  live = r.holds_entries.listed;
  few = r.holds_entries.few;
  range = all_from (λ q. HasVariables w.trail.vars (literals_at clauses q)) database.shorts.items (λ q there.
      let (d, at, same) = r.holds_entries.spelled q (All-contains (λ x. is_some (held_at clauses x) ≡ true) database.shorts.items q r.holds_entries.listed there) in
      All-permutation (IsWithin w.trail.vars) d.literals (literals_at clauses q) same
      (All-contains (HasVariables w.trail.vars) (standing proof) d.literals range
      (map_contains (λ (x : Entry). x.literals) (entries proof) d (found_stands (entries proof) (id_in clauses q) d at))));
}
