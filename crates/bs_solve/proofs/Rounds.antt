-- A search from one round to the next.
use Rattle.std.proofs.Common.{◌≡◌, ◌≢◌, ℕ, ◌+◌, ◌<◌, ◌≤◌, arith, true, false, List, [], ◌∷◌, ◌++◌, length, take, refl, sym, ap, subst, ◌∙◌, inl, inr, Option, Some, None}
use Rattle.std.proofs.lemmas.Bool.{false≢true}
use Rattle.std.specs.Prelude.{All, slice_get, is_some}
use Rattle.std.proofs.lemmas.List.{map-append, take-append-le}
use Rattle.bs_clause.specs.Range.{HasVariables}
use Rattle.bs_log.specs.History.{Entry}
use Rattle.bs_arena.specs.Arena.{Held}
use Rattle.bs_watch.specs.declared.visit.Outcome.{Outcome}
use Rattle.bs_watch.specs.declared.visit.Outcome.TheVariants.{Quiet, Conflict}
use Rattle.bs_watch.specs.declared.watch.Level.{Level}
use Rattle.bs_watch.specs.Trail.{IsQuiet, IsOpenOn}
use Rattle.bs_watch.specs.Places.{Place, AreApart}
use Rattle.bs_watch.specs.Scene.{Advances, Propagated}
use Rattle.bs_watch.specs.Watch.{WatchState, Serves, scene}
use Rattle.bs_solve_lemmas.specs.Reasons.{IsReasoned}
use Rattle.bs_solve_lemmas.proofs.AnalysisCallerLemmas.{reasoned_grows, reasoned_free}
use Rattle.bs_solve_lemmas.specs.Place.{LoggedPlace}
use Rattle.bs_solve_lemmas.specs.Places.{logged_literals}
use Rattle.bs_solve_lemmas.specs.Grown.{LoggedGrows}
use Rattle.bs_solve_lemmas.specs.ProofLog.{ProofLog, standing}
use Rattle.bs_solve_lemmas.specs.Search.{HasLearnt}
use Rattle.bs_watch.proofs.Advancing.{take_front}
use Rattle.bs_watch.proofs.Gets.{get_push_cases, get_map_cases, get_within}
use Rattle.bs_solve_lemmas.proofs.Endings.{search_decides, search_learns}
use Rattle.bs_solve.specs.declared.database.Database.{Database}
use Rattle.bs_solve.specs.Database.{entries, HoldsEntries}
use Rattle.bs_solve.proofs.Entries.{clauses_in}
use Rattle.bs_solve.specs.Seen.{seen_place, seen, is_quiet}
use Rattle.bs_solve.specs.Begun.{AreBegun, AreSatisfied}
use Rattle.bs_solve.specs.Running.{seen_trail, IsRunning, Clashes, InRound}
use Rattle.bs_solve.specs.Ground.{IsGround}
use Rattle.bs_solve.specs.Learning.{IsInConflict, LearnsFrom}
use Rattle.bs_solve.proofs.Grounds.{ground_shuffled}
use Rattle.bs_solve.specs.Searching.{IsFirstConflict, HasDecided}
use Rattle.bs_solve.proofs.Seens.{literals_seen, length_seen, holds_shuffled, grows_seen, quiet_database}
use Rattle.bs_solve.proofs.Begins.{begun_decided, begun_grows, satisfied_grows, satisfied_push, satisfied_level}

-- ---- propagation

pub running_propagated : (base level : ℕ) (proof : ProofLog) (w new : WatchState) (clauses after : List Held) (database : Database) →
    IsRunning base proof w clauses database →
    Advances level (scene w clauses) (scene new after) → new.levels ≡ w.levels → Serves new after → IsRunning base proof new after database
running_propagated base level proof w new clauses after database r x levels serves = record {
  holds_entries = holds_shuffled w.lists new.lists clauses after database (entries proof) r.holds_entries x.shuffled (λ q a. (x.attached q).1 a);
  serves = serves;
  begun = subst (λ ls. AreBegun base ls new.trail.places) (sym levels) (begun_grows base level w.levels after w.trail.places new.trail.places r.begun x.grows);
  satisfied = subst (λ ls. AreSatisfied database.shorts.items after ls new.trail.places) (sym levels)
      (satisfied_grows database.shorts.items clauses after level w.levels w.trail.places new.trail.places r.satisfied x.shuffled x.grows (λ v e.
      let d = (r.begun.on 1 v (omega arith) e).1 in
      let within = get_within w.trail.places v.start d.place d.there in omega (arith, within)));
  reasoned = reasoned_grows clauses after level w.trail.places new.trail.places x.shuffled x.grows r.reasoned;
  ground = λ v e.
      let was : slice_get w.levels 0 ≡ Some v = subst (λ ls. slice_get ls 0 ≡ Some v) levels e in
      let f = r.begun.first v was in
      let same : take v.start new.trail.places ≡ take v.start w.trail.places =
      sym (take_front (length w.trail.places) v.start new.trail.places f.1) ∙ ap (take v.start) x.grows.front in
      subst (IsGround (entries proof) database.shorts.items after) (sym same)
      (ground_shuffled (entries proof) database.shorts.items clauses after (take v.start w.trail.places) x.shuffled (r.ground v was));
}

pub logged_grows : (level : ℕ) (w new : WatchState) (clauses after : List Held) (database : Database) (es : List Entry) → HoldsEntries new.lists after database es →
    Advances level (scene w clauses) (scene new after) → LoggedGrows (clauses_in es) (seen w.trail.places) (seen new.trail.places)
logged_grows level w new clauses after database es s x = grows_seen new.lists after database es level w.trail.places new.trail.places s x.grows

pub logged_outcome : (base : ℕ) (proof : ProofLog) (w : WatchState) (clauses : List Held) (database : Database) (o : Outcome) → IsRunning base proof w clauses database →
    AreApart w.trail.places → Propagated (scene w clauses) o → is_quiet o ≡ true → IsQuiet (logged_literals (seen w.trail.places)) (standing proof)
logged_outcome base proof w clauses database Quiet r apart p quiet =
    subst (λ ls. IsQuiet ls (standing proof)) (sym (literals_seen w.trail.places))
    (quiet_database w.trail.places w.lists clauses database (entries proof) r.holds_entries apart p.no_conflict p.no_unit r.satisfied.now)
logged_outcome base proof w clauses database (Conflict q) r apart p quiet = absurd (false≢true quiet)

pub clashes_from : (w : WatchState) (clauses : List Held) (o : Outcome) → Propagated (scene w clauses) o → Clashes clauses w o
clashes_from w clauses Quiet p = tt
clashes_from w clauses (Conflict q) p = record { live = p.live; lost = p.lost }

-- ---- decisions

pub running_decided : (base : ℕ) (proof : ProofLog) (w new : WatchState) (clauses : List Held) (database : Database) → IsRunning base proof w clauses database →
    base ≤ length w.trail.places → HasDecided w new → IsRunning base proof new clauses database
running_decided base proof w new clauses database r low d =
    let v : Level = record { start = length w.trail.places; looked = w.head } in
    let p : Place = record { literal = d.literal; reason = None; level = length (w.levels ++ v ∷ []) } in
    let places : new.trail.places ≡ w.trail.places ++ p ∷ [] = ap (λ (x : WatchState). x.trail.places) d.is in
    let levels : new.levels ≡ w.levels ++ v ∷ [] = ap (λ (x : WatchState). x.levels) d.is in
    record {
      holds_entries = subst (λ ls. HoldsEntries ls clauses database (entries proof)) (sym (ap (λ (x : WatchState). x.lists) d.is)) r.holds_entries;
      serves = d.serves.keeps clauses r.serves;
      begun = subst (λ ls. AreBegun base ls new.trail.places) (sym levels) (subst (AreBegun base (w.levels ++ v ∷ [])) (sym places)
          (begun_decided base w.levels w.trail.places v p r.begun low refl refl));
      satisfied = subst (λ ls. AreSatisfied database.shorts.items clauses ls new.trail.places) (sym levels)
          (subst (AreSatisfied database.shorts.items clauses (w.levels ++ v ∷ [])) (sym places)
          (satisfied_push database.shorts.items clauses (w.levels ++ v ∷ []) w.trail.places p
          (satisfied_level database.shorts.items clauses w.levels w.trail.places v r.satisfied refl)
          (λ u e. within w r v refl u e)));
      reasoned = subst (IsReasoned clauses) (sym places) (reasoned_free clauses w.trail.places p refl r.reasoned);
      ground = λ u e. elim (get_push_cases w.levels v u 0 (subst (λ ls. slice_get ls 0 ≡ Some u) levels e)) [
        | inl there ↦
            let f = r.begun.first u there in
            subst (IsGround (entries proof) database.shorts.items clauses)
            (sym (ap (take u.start) places ∙ take-append-le u.start w.trail.places (p ∷ []) f.1)) (r.ground u there)
        | inr last ↦ absurd (let h = last.0 in let some = r.begun.some in omega (arith, h, some))
      ];
    }
  where
    within : (x : WatchState) → IsRunning base proof x clauses database → (v : Level) → v.start ≡ length x.trail.places → (u : Level) →
        slice_get (x.levels ++ v ∷ []) 1 ≡ Some u →
        u.start ≤ length x.trail.places
    within x r v at u e = elim (get_push_cases x.levels v u 1 e) [
      | inl there ↦
          let d = (r.begun.on 1 u (omega arith) there).1 in
          let h = get_within x.trail.places u.start d.place d.there in omega (arith, h)
      | inr last ↦ let start : u.start ≡ length x.trail.places = ap (λ (y : Level). y.start) (sym last.1) ∙ at in omega (arith, start)
    ]

pub seen_decided : (w new : WatchState) (d : HasDecided w new) →
    seen new.trail.places ≡ seen w.trail.places ++ record { literal = d.literal; implied = false } ∷ []
seen_decided w new d =
    ap seen (ap (λ (x : WatchState). x.trail.places) d.is) ∙
    map-append seen_place w.trail.places
    (record { literal = d.literal; reason = None; level = length (w.levels ++ record { start = length w.trail.places; looked = w.head } ∷ []) } ∷ [])

pub round_decides : (old : ProofLog) (vars base conflicts limit level : ℕ) (proof : ProofLog) (w mid new : WatchState) (clauses after : List Held)
    (database : Database) (o : Outcome) →
    InRound old vars base conflicts limit proof w clauses database Quiet → HasDecided w mid → Advances level (scene mid clauses) (scene new after) →
    new.levels ≡ mid.levels → Serves new after → AreApart new.trail.places → Propagated (scene new after) o →
    InRound old vars base conflicts limit proof new after database o
round_decides old vars base conflicts limit level proof w mid new clauses after database o t d x levels serves apart p =
    let low : base ≤ length w.trail.places = let l = t.search.low in let n = length_seen w.trail.places in omega (arith, l, n) in
    let middle = running_decided base proof w mid clauses database t.running low d in
    let running = running_propagated base level proof mid new clauses after database middle x levels serves in
    record {
      vars_is = x.vars ∙ ap (λ (y : WatchState). y.trail.vars) d.is ∙ t.vars_is;
      running = running;
      search = search_decides old vars base conflicts limit proof (seen w.trail.places) (seen new.trail.places) d.literal (is_quiet o)
          t.search (subst (λ ls. IsOpenOn ls d.literal) (sym (literals_seen w.trail.places)) d.free.unassigned)
          (subst (λ ps. LoggedGrows (standing proof) ps (seen new.trail.places)) (seen_decided w mid d)
          (logged_grows level mid new clauses after database (entries proof) running.holds_entries x))
          (logged_outcome base proof new after database o running apart p);
      clashes = clashes_from new after o p;
    }

-- ---- conflicts

pub conflict_in : (old : ProofLog) (vars base conflicts limit : ℕ) (proof : ProofLog) (w : WatchState) (clauses : List Held) (database : Database) (r : ℕ) →
    InRound old vars base conflicts limit proof w clauses database (Conflict r) → IsInConflict base proof w clauses database r
conflict_in old vars base conflicts limit proof w clauses database r t = record {
  running = t.running;
  sound = t.search.sound;
  given = t.search.given;
  range = subst (λ n. All (HasVariables n) (standing proof)) (sym t.vars_is) t.search.range;
  distinct = t.search.distinct;
  clash = t.clashes;
}

pub first_conflict_in : (old : ProofLog) (vars base conflicts limit : ℕ) (proof : ProofLog) (w : WatchState) (clauses : List Held) (database : Database) (r : ℕ) →
    InRound old vars base conflicts limit proof w clauses database (Conflict r) → length w.levels < 2 → IsFirstConflict base proof w clauses database r
first_conflict_in old vars base conflicts limit proof w clauses database r t few = record {
  holds_entries = t.running.holds_entries;
  serves = t.running.serves;
  reasoned = t.running.reasoned;
  sound = t.search.sound;
  implied = λ k q above e.
      let (p, at, is) = get_map_cases seen_place w.trail.places k q e in
      ap (λ (x : LoggedPlace). x.implied) (sym is) ∙ implied p k above at p.reason refl;
  range = subst (λ n. All (HasVariables n) (standing proof)) (sym t.vars_is) t.search.range;
  distinct = t.search.distinct;
  clash = t.clashes;
  some = t.running.begun.some;
  ground = t.running.ground;
}
  where
    implied : (p : Place) (k : ℕ) → base ≤ k → slice_get w.trail.places k ≡ Some p → (o : Option ℕ) → p.reason ≡ o →
        is_some p.reason ≡ true
    implied p k above at (Some q) is = ap is_some is
    implied p k above at None is =
        let (j, v, one, there, start) = t.running.begun.only k p above at is in
        absurd (let h = get_within w.levels j v there in omega (arith, h, few, one))

pub learnt_in : (vars base : ℕ) (proof new_proof : ProofLog) (w mid : WatchState) → w.trail.vars ≡ vars →
    HasLearnt base proof new_proof (seen_trail w) (seen_trail mid) →
    HasLearnt base proof new_proof (record { vars = vars; places = seen w.trail.places }) (seen_trail mid)
learnt_in vars base proof new_proof w mid is h =
    subst (λ n. HasLearnt base proof new_proof (record { vars = n; places = seen w.trail.places }) (seen_trail mid)) is h

pub round_learns : (old : ProofLog) (vars base conflicts limit level r : ℕ) (proof new_proof : ProofLog) (w mid new : WatchState) (clauses later after : List Held)
    (database more : Database) (o : Outcome) →
    InRound old vars base conflicts limit proof w clauses database (Conflict r) → LearnsFrom proof new_proof w mid clauses later database more r → conflicts + 1 ≢ limit →
    Advances level (scene mid later) (scene new after) → new.levels ≡ mid.levels → Serves new after → AreApart new.trail.places →
    Propagated (scene new after) o →
    InRound old vars base (conflicts + 1) limit new_proof new after more o
round_learns old vars base conflicts limit level r proof new_proof w mid new clauses later after database more o t h not_all x levels serves apart p =
    let c = conflict_in old vars base conflicts limit proof w clauses database r t in
    let learnt = learnt_in vars base proof new_proof w mid t.vars_is (h.learnt base c) in
    let running = running_propagated base level new_proof mid new later after more (h.running base c) x levels serves in
    record {
      vars_is = x.vars ∙ h.vars ∙ t.vars_is;
      running = running;
      search = search_learns old vars base conflicts limit proof new_proof (seen w.trail.places) (seen_trail mid) (seen new.trail.places)
          (is_quiet (Conflict r)) (is_quiet o) t.search learnt not_all
          (logged_grows level mid new later after more (entries new_proof) running.holds_entries x) (logged_outcome base new_proof new after more o running apart p);
      clashes = clashes_from new after o p;
    }
