-- A search goes on after a block.
use Rattle.std.proofs.Common.{◌≡◌, ◌≢◌, ℕ, ◌+◌, ◌<◌, ◌≤◌, arith, true, List, length, take, refl, sym, ap, subst, ◌∙◌, inl, inr, Option, Some, None}
use Rattle.std.specs.Prelude.{All, slice_get, is_some, IfSome}
use Rattle.std.proofs.lemmas.Bool.{cases_lt, cases_eq, false≢true}
use Rattle.std.proofs.lemmas.List.{length-take-le, take_all}
use Rattle.std.proofs.lemmas.List.Elements.{All-contains}
use Rattle.bs_clause.specs.Literal.{Clause}
use Rattle.bs_clause.specs.Range.{HasVariables}
use Rattle.bs_log.specs.History.{phase_of}
use Rattle.bs_log.specs.Refusal.{has_distinct_variables, in_solve}
use Rattle.bs_arena.specs.Arena.{Held}
use Rattle.bs_watch.specs.declared.visit.Outcome.{Outcome}
use Rattle.bs_watch.specs.declared.visit.Outcome.TheVariants.{Quiet, Conflict}
use Rattle.bs_watch.specs.declared.watch.Level.{Level}
use Rattle.bs_watch.specs.Trail.{IsTrueOn, IsQuiet}
use Rattle.bs_watch.specs.Places.{Place, TrailState, AreApart}
use Rattle.bs_watch.specs.Scene.{Advances, Propagated}
use Rattle.bs_watch.specs.Watch.{WatchState, Serves, KeepsService, HasGoneBack, scene}
use Rattle.bs_solve_lemmas.specs.Place.{LoggedPlace}
use Rattle.bs_solve_lemmas.specs.Places.{AreWarranted, logged_literals}
use Rattle.bs_solve_lemmas.specs.ProofLog.{ProofLog, standing}
use Rattle.bs_solve_lemmas.specs.Search.{assumed}
use Rattle.bs_watch.proofs.Gets.{some_at, same_some, get_map_cases, get_map, get_within}
use Rattle.bs_solve_lemmas.proofs.Clauses.{all_from}
use Rattle.bs_solve_lemmas.proofs.Places.{sound_grows}
use Rattle.bs_solve_lemmas.proofs.Fronts.{true_later}
use Rattle.bs_solve_lemmas.proofs.Endings.{given_after, front_after, no_lemmas}
use Rattle.bs_solve.specs.declared.database.Database.{Database}
use Rattle.bs_solve.specs.Database.{entries}
use Rattle.bs_solve.specs.Seen.{seen_place, seen}
use Rattle.bs_solve.specs.Begun.{AreBegun}
use Rattle.bs_solve.specs.Running.{InRound}
use Rattle.bs_solve.specs.Learning.{IsAtRest}
use Rattle.bs_solve.specs.Searching.{IsFirstConflict, IsSomeFirstConflict, IsSomeRound, HasPropagated}
use Rattle.bs_solve.specs.Pausing.{IsPaused, IsSomePause, IsKept, GoesToRest}
use Rattle.bs_solve.proofs.Seens.{length_seen}
use Rattle.bs_solve.proofs.Rounds.{running_propagated, logged_grows, logged_outcome, clashes_from}
use Rattle.bs_solve.proofs.Refutings.{at_rest}

-- ---- propagation on a trail that waited

pub paused_propagated : (base level : ℕ) (proof : ProofLog) (w new : WatchState) (clauses after : List Held) (database : Database) →
    IsPaused base proof w clauses database → Advances level (scene w clauses) (scene new after) → new.levels ≡ w.levels → Serves new after →
    IsPaused base proof new after database
paused_propagated base level proof w new clauses after database p x levels serves =
    let running = running_propagated base level proof w new clauses after database p.running x levels serves in
    let grows = logged_grows level w new clauses after database (entries proof) running.holds_entries x in
    let low : base ≤ length (seen w.trail.places) = let l = p.low in let n = length_seen w.trail.places in omega (arith, l, n) in
    record {
      running = running;
      sound = sound_grows (standing proof) base (assumed proof) (seen w.trail.places) (seen new.trail.places) p.sound grows;
      given = given_after base (seen w.trail.places) (seen new.trail.places) (assumed proof)
          (front_after (standing proof) base (seen w.trail.places) (seen new.trail.places) low grows) p.given;
      low = let l = p.low in let n = x.grows.longer in omega (arith, l, n);
    }

-- ---- another length of the first level

-- no literal between the two lengths is a decision
pub record AreImpliedTo (base past : ℕ) (places : List Place) : Type 0 where
  pub implied : (k : ℕ) (p : Place) → base ≤ k → k < past → slice_get places k ≡ Some p → is_some p.reason ≡ true

-- a place without a reason is where a level begins
implied_or : (base : ℕ) (levels : List Level) (places : List Place) (past : ℕ) → AreBegun base levels places →
    ((j : ℕ) (v : Level) → 1 ≤ j → slice_get levels j ≡ Some v → past ≤ v.start) → AreImpliedTo base past places
implied_or base levels places past b later = record { implied = λ k p above below e. by k p above below e p.reason refl }
  where
    by : (k : ℕ) (p : Place) → base ≤ k → k < past → slice_get places k ≡ Some p → (o : Option ℕ) → p.reason ≡ o → is_some p.reason ≡ true
    by k p above below e (Some r) is = ap is_some is
    by k p above below e None is =
        let (j, v, one, there, start) = b.only k p above e is in
        absurd (let h = later j v one there in omega (arith, h, start, below))

begun_from : (base past : ℕ) (levels : List Level) (places : List Place) → AreBegun base levels places → base ≤ past →
    ((j : ℕ) (v : Level) → 1 ≤ j → slice_get levels j ≡ Some v → past ≤ v.start) → AreBegun past levels places
begun_from base past levels places b low later = record {
  some = b.some;
  first = λ v e. let f = b.first v e in ((let g = f.0 in omega (arith, g, low)), f.1);
  on = λ j v one e. (later j v one e, (b.on j v one e).1);
  only = λ k p above e none. b.only k p (omega (arith, low, above)) e none;
  ascends = b.ascends;
  deep = b.deep;
  few = b.few;
}

sound_from : (st : List Clause) (base past : ℕ) (a : Clause) (places : List Place) → AreWarranted st base a (seen places) →
    base ≤ past → AreImpliedTo base past places → AreWarranted st past a (seen places)
sound_from st base past a places s low f = record {
  placed = λ k q e.
      let was = s.placed k q e in
      let within = get_within (seen places) k q e in
      let count : length (take k (seen places)) ≡ k = length-take-le k (seen places) (omega (arith, within)) in
      record {
        unassigned = was.unassigned;
        implied = was.implied;
        assumed = λ none below. elim (cases_lt k base) [
          | inl before ↦ was.assumed none (omega (arith, count, before))
          | inr beyond ↦
              let (p, at, is) = get_map_cases seen_place places k q e in
              absurd (false≢true (sym none ∙ ap (λ (x : LoggedPlace). x.implied) (sym is) ∙ f.implied k p beyond (omega (arith, count, below)) at))
        ];
        quiet = λ none above. was.quiet none (omega (arith, low, above));
      };
}

given_from : (base past : ℕ) (a : Clause) (places : List LoggedPlace) → base ≤ past → All (IsTrueOn (logged_literals (take base places))) a →
    All (IsTrueOn (logged_literals (take past places))) a
given_from base past a places low given =
    all_from (IsTrueOn (logged_literals (take past places))) a
    (λ l there. true_later (λ (x : LoggedPlace). x.literal) places base past l low (All-contains (IsTrueOn (logged_literals (take base places))) a l given there))

-- ---- the rounds go on

-- what a solve knows of its clauses and assumptions
pub record IsAsked (proof : ProofLog) (vars limit : ℕ) : Type 0 where
  pub range : All (HasVariables vars) (standing proof)
  pub assumed_range : HasVariables vars (assumed proof)
  pub distinct : All (λ c. has_distinct_variables c ≡ true) (standing proof)
  pub phase : in_solve (phase_of proof.history) ≡ true
  pub limit_some : 1 ≤ limit

round_from : (base past : ℕ) (proof : ProofLog) (vars limit : ℕ) (w : WatchState) (clauses : List Held) (database : Database) (o : Outcome) →
    IsPaused base proof w clauses database → IsAsked proof vars limit → w.trail.vars ≡ vars → AreApart w.trail.places → Propagated (scene w clauses) o →
    base ≤ past → past ≤ length w.trail.places → ((j : ℕ) (v : Level) → 1 ≤ j → slice_get w.levels j ≡ Some v → past ≤ v.start) →
    IsQuiet (logged_literals (take past (seen w.trail.places))) (standing proof) → InRound proof vars past 0 limit proof w clauses database o
round_from base past proof vars limit w clauses database o p a vars_is apart ends low high later quiet =
    let implied = implied_or base w.levels w.trail.places past p.running.begun later in
    record {
      vars_is = vars_is;
      running = record {
        holds_entries = p.running.holds_entries;
        serves = p.running.serves;
        begun = begun_from base past w.levels w.trail.places p.running.begun low later;
        satisfied = p.running.satisfied;
        reasoned = p.running.reasoned;
        ground = p.running.ground;
      };
      search = record {
        logged = no_lemmas proof;
        under = let one = a.limit_some in omega (arith, one);
        sound = sound_from (standing proof) base past (assumed proof) w.trail.places p.sound low implied;
        given = given_from base past (assumed proof) (seen w.trail.places) low p.given;
        start = quiet;
        counted = omega arith;
        low = let n = length_seen w.trail.places in omega (arith, n, high);
        range = a.range;
        assumed_range = a.assumed_range;
        distinct = a.distinct;
        phase = a.phase;
        ended = logged_outcome base proof w clauses database o p.running apart ends;
      };
      clashes = clashes_from w clauses o ends;
    }

-- where there are decisions, the first level ends before the first of them
pub round_above : (base : ℕ) (proof : ProofLog) (vars limit : ℕ) (w : WatchState) (clauses : List Held) (database : Database) (o : Outcome) →
    IsPaused base proof w clauses database → IsAsked proof vars limit → w.trail.vars ≡ vars → AreApart w.trail.places → Propagated (scene w clauses) o →
    2 ≤ length w.levels → (past : ℕ) × InRound proof vars past 0 limit proof w clauses database o
round_above base proof vars limit w clauses database o p a vars_is apart ends deep =
    let b = p.running.begun in
    let (v, at) = some_at w.levels 1 (omega (arith, deep)) in
    let (low, d) = b.on 1 v (omega arith) at in
    let within = get_within w.trail.places v.start d.place d.there in
    let there = get_map seen_place w.trail.places v.start d.place d.there in
    let count : length (take v.start (seen w.trail.places)) ≡ v.start =
    length-take-le v.start (seen w.trail.places) (let n = length_seen w.trail.places in omega (arith, n, within)) in
    let quiet = (p.sound.placed v.start (seen_place d.place) there).quiet (ap is_some d.decision) (omega (arith, low, count)) in (
      v.start,
      round_from base v.start proof vars limit w clauses database o p a vars_is apart ends low (omega (arith, within)) (λ j u one e. elim (cases_eq j 1) [
        | inl same ↦
            let is : u ≡ v = same_some u v (sym e ∙ ap (slice_get w.levels) same ∙ at) in
            let starts = ap (λ (x : Level). x.start) is in omega (arith, starts)
        | inr other ↦
            let less = b.ascends 1 j v u (omega arith) (omega (arith, one, λ (e2 : j ≡ 1). other e2)) at e in omega (arith, less)
      ]) quiet,
    )

-- where there are none, it ends with the trail, once nothing more follows
pub round_quiet : (base : ℕ) (proof : ProofLog) (vars limit : ℕ) (w : WatchState) (clauses : List Held) (database : Database) →
    IsPaused base proof w clauses database → IsAsked proof vars limit → w.trail.vars ≡ vars → AreApart w.trail.places → Propagated (scene w clauses) Quiet →
    length w.levels < 2 → (past : ℕ) × InRound proof vars past 0 limit proof w clauses database Quiet
round_quiet base proof vars limit w clauses database p a vars_is apart ends few =
    let n = length_seen w.trail.places in (
      length w.trail.places,
      round_from base (length w.trail.places) proof vars limit w clauses database Quiet p a vars_is apart ends p.low (omega arith)
          (λ j u one e. absurd (let h = get_within w.levels j u e in omega (arith, h, few, one)))
          (subst (λ ps. IsQuiet (logged_literals ps) (standing proof))
          (sym (take_all (length w.trail.places) (seen w.trail.places) (omega (arith, n))))
          (logged_outcome base proof w clauses database Quiet p.running apart ends refl)),
    )

-- a conflict there ends the step
pub conflict_paused : (base : ℕ) (proof : ProofLog) (w : WatchState) (clauses : List Held) (database : Database) (r : ℕ) →
    IsPaused base proof w clauses database → All (HasVariables w.trail.vars) (standing proof) → All (λ c. has_distinct_variables c ≡ true) (standing proof) →
    Propagated (scene w clauses) (Conflict r) → length w.levels < 2 → IsFirstConflict base proof w clauses database r
conflict_paused base proof w clauses database r p range distinct ends few = record {
  holds_entries = p.running.holds_entries;
  serves = p.running.serves;
  reasoned = p.running.reasoned;
  sound = p.sound;
  implied = λ k q above e.
      let (x, at, is) = get_map_cases seen_place w.trail.places k q e in
      ap (λ (y : LoggedPlace). y.implied) (sym is) ∙ (implied_or base w.levels w.trail.places (k + 1) p.running.begun
      (λ j u one there. absurd (let h = get_within w.levels j u there in omega (arith, h, few, one)))).implied k x above (omega arith) at;
  range = range;
  distinct = distinct;
  clash = clashes_from w clauses (Conflict r) ends;
  some = p.running.begun.some;
  ground = p.running.ground;
}

-- ---- the trail goes back to nothing

pub goes_to_rest : (old new : WatchState) → new.levels ≡ take 0 old.levels → new.lists ≡ old.lists →
    IfSome (slice_get old.levels 0) (HasGoneBack old new) → (length old.levels ≤ 0 → new ≡ old) → KeepsService old new → GoesToRest old new
goes_to_rest old new levels lists back same serves = record {
  vars = elim (cases_lt 0 (length old.levels)) [
    | inl some ↦
        let (v, at) = some_at old.levels 0 some in
        ap (λ (t : TrailState). t.vars) (subst (λ o. IfSome o (HasGoneBack old new)) at back).trail
    | inr none ↦ ap (λ (x : WatchState). x.trail.vars) (same none)
  ];
  keeps = λ proof clauses database k. elim k [
    | inl r ↦ subst (λ x. IsAtRest proof x clauses database) (sym (same (let n = ap length r.levels in omega (arith, n)))) r
    | inr p ↦ at_rest p.0 proof old new clauses database p.1.running levels lists back (serves.keeps clauses p.1.running.serves)
  ];
}

-- ---- a solve goes on

asked_of : (proof : ProofLog) (w new : WatchState) (limit : ℕ) → new.trail.vars ≡ w.trail.vars → All (HasVariables w.trail.vars) (standing proof) →
    HasVariables w.trail.vars (assumed proof) → All (λ c. has_distinct_variables c ≡ true) (standing proof) → in_solve (phase_of proof.history) ≡ true →
    1 ≤ limit → IsAsked proof new.trail.vars limit
asked_of proof w new limit same range range_a distinct phase one = record {
  range = subst (λ n. All (HasVariables n) (standing proof)) (sym same) range;
  assumed_range = subst (λ n. HasVariables n (assumed proof)) (sym same) range_a;
  distinct = distinct;
  phase = phase;
  limit_some = one;
}

pub quiet_resumes : (proof : ProofLog) (limit : ℕ) (w new : WatchState) (clauses after : List Held) (database : Database) → IsSomePause proof w clauses database →
    All (HasVariables w.trail.vars) (standing proof) → HasVariables w.trail.vars (assumed proof) →
    All (λ c. has_distinct_variables c ≡ true) (standing proof) → in_solve (phase_of proof.history) ≡ true → 1 ≤ limit →
    HasPropagated w new clauses after Quiet → IsSomeRound proof new.trail.vars 0 limit proof new after database Quiet
quiet_resumes proof limit w new clauses after database (base, p) range range_a distinct phase one h =
    let asked = asked_of proof w new limit h.advances.vars range range_a distinct phase one in
    let now = paused_propagated base (length w.levels) proof w new clauses after database p h.advances h.levels h.serves in
    elim (cases_lt (length new.levels) 2) [
      | inl few ↦ round_quiet base proof new.trail.vars limit new after database now asked refl h.apart h.ends few
      | inr deep ↦ round_above base proof new.trail.vars limit new after database Quiet now asked refl h.apart h.ends deep
    ]

pub conflict_resumes : (proof : ProofLog) (limit : ℕ) (w new : WatchState) (clauses after : List Held) (database : Database) (r : ℕ) →
    IsSomePause proof w clauses database → All (HasVariables w.trail.vars) (standing proof) → HasVariables w.trail.vars (assumed proof) →
    All (λ c. has_distinct_variables c ≡ true) (standing proof) → in_solve (phase_of proof.history) ≡ true → 1 ≤ limit →
    HasPropagated w new clauses after (Conflict r) → 2 ≤ length new.levels → IsSomeRound proof new.trail.vars 0 limit proof new after database (Conflict r)
conflict_resumes proof limit w new clauses after database r (base, p) range range_a distinct phase one h deep =
    round_above base proof new.trail.vars limit new after database (Conflict r)
    (paused_propagated base (length w.levels) proof w new clauses after database p h.advances h.levels h.serves)
    (asked_of proof w new limit h.advances.vars range range_a distinct phase one) refl h.apart h.ends deep

pub conflict_ends : (proof : ProofLog) (w new : WatchState) (clauses after : List Held) (database : Database) (r : ℕ) → IsSomePause proof w clauses database →
    All (HasVariables w.trail.vars) (standing proof) → All (λ c. has_distinct_variables c ≡ true) (standing proof) →
    HasPropagated w new clauses after (Conflict r) → length new.levels < 2 → IsSomeFirstConflict proof new after database r
conflict_ends proof w new clauses after database r (base, p) range distinct h few = (
  base,
  conflict_paused base proof new after database r (paused_propagated base (length w.levels) proof w new clauses after database p h.advances h.levels h.serves)
      (subst (λ n. All (HasVariables n) (standing proof)) (sym h.advances.vars) range) distinct h.ends few,
)

-- ---- which way a search goes

pub rests_at_nothing : (proof : ProofLog) (w : WatchState) (clauses : List Held) (database : Database) → IsKept proof w clauses database → length w.levels ≡ 0 →
    IsAtRest proof w clauses database
rests_at_nothing proof w clauses database (inl r) none = r
rests_at_nothing proof w clauses database (inr p) none = absurd (let some = p.1.running.begun.some in omega (arith, some, none))

pub waits_above : (proof : ProofLog) (w : WatchState) (clauses : List Held) (database : Database) → IsKept proof w clauses database → length w.levels ≢ 0 →
    IsSomePause proof w clauses database
waits_above proof w clauses database (inl r) some = absurd (some (ap length r.levels))
waits_above proof w clauses database (inr p) some = p
