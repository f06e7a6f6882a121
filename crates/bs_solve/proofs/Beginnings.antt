-- The first level of a search, behind what stands for good.
use Rattle.std.proofs.Common.{◌≡◌, ◌≢◌, ℕ, zero, suc, ◌≤◌, arith, Bool, true, false, not, List, [], ◌∷◌, ◌++◌, length, take, drop, refl, sym, ap, subst, ◌∙◌, inl, inr, ◌⊎◌, Option, Some, None}
use Rattle.std.specs.Prelude.{All, Contains, slice_get, is_some, option_map, IfSome, IsPermutation, IsTrue}
use Rattle.std.specs.List.{cons_option}
use Rattle.std.proofs.lemmas.Bool.{cases_lt, false≢true, true≢false, and_from}
use Rattle.std.proofs.lemmas.List.{append-nil, append_assoc, take_at, length-take-le}
use Rattle.std.proofs.lemmas.List.Elements.{All-contains, All-cons, All-nil}
use Rattle.std.proofs.lemmas.List.Sorted.{IsPermutation-sym}
use Rattle.bs_clause.specs.Literal.{Literal, Clause, negation, has_literal}
use Rattle.bs_clause.specs.Range.{IsWithin, HasVariables}
use Rattle.bs_clause.proofs.Literals.{has-from_Contains}
use Rattle.bs_log.specs.declared.origin.Origin.TheVariants.{Learnt as FromConflict}
use Rattle.bs_log.specs.History.{Entry, live}
use Rattle.bs_log.specs.Refusal.{has_distinct_variables, entry_of, clauses_of, denies}
use Rattle.bs_log.specs.Lean.{IsNew, IsResolventOf}
use Rattle.bs_arena.specs.Arena.{Held, literals_at}
use Rattle.bs_watch.specs.declared.watch.Level.{Level}
use Rattle.bs_watch.specs.declared.lists.Watcher.{Watcher}
use Rattle.bs_watch.specs.Trail.{IsTrueOn, IsFalseOn, IsOpenOn, Implies}
use Rattle.bs_watch.specs.Places.{Place, TrailState, AreApart, IsImpliedBy, IsPlaceOf, HasNoReason, literals_of}
use Rattle.bs_watch.specs.Look.{HasTrue}
use Rattle.bs_watch.specs.Watch.{WatchState, Serves, KeepsService, HasGoneBack, decided}
use Rattle.bs_watch.proofs.Advancing.{shuffled_refl, take_front}
use Rattle.bs_solve_lemmas.specs.Reasons.{IsReasoned, IsConflictAt}
use Rattle.bs_solve_lemmas.proofs.AnalysisCallerLemmas.{implies_permuted, reasoned_grows, reasoned_free}
use Rattle.bs_solve_lemmas.specs.Place.{LoggedPlace}
use Rattle.bs_solve_lemmas.specs.Places.{AreWarranted, logged_literals}
use Rattle.bs_solve_lemmas.specs.Walk.{IsLoggedLearnt}
use Rattle.bs_solve_lemmas.specs.ProofLog.{ProofLog, standing, next_id, with_lemma}
use Rattle.bs_solve_lemmas.specs.Search.{assumed}
use Rattle.bs_watch.proofs.Gets.{some_at, none_is_not_some, same_some, get_map_cases, get_map, get_within, get_take, get_from_Contains, Contains_from_get}
use Rattle.bs_solve_lemmas.proofs.Clauses.{contains_first, map_contains, any_first, any_cases}
use Rattle.bs_solve_lemmas.proofs.Entries.{found_stands}
use Rattle.bs_solve_lemmas.proofs.Places.{sound_grows}
use Rattle.bs_solve.specs.declared.database.Database.{Database}
use Rattle.bs_solve.specs.declared.first_level.LevelStart.TheVariants.{Failed, Clash, Assigned}
use Rattle.bs_solve.specs.Database.{entries, is_live, id_in, HoldsEntries}
use Rattle.bs_solve.specs.Ground.{HasAdded, IsGround}
use Rattle.bs_solve.specs.Seen.{seen_place, seen}
use Rattle.bs_solve.specs.Begun.{AreBegun}
use Rattle.bs_solve.specs.FirstLevel.{HasAssumed, HasGrown, AllSatisfied, HasBegunLevel}
use Rattle.bs_solve.specs.Learning.{IsAtRest}
use Rattle.bs_solve.specs.Pausing.{IsSomePause}
use Rattle.bs_solve.specs.Searching.{IsSomeFirstConflict, IsFailedAssumption, HasEndedBy}
use Rattle.bs_solve.proofs.Entries.{clauses_in, stands_grown}
use Rattle.bs_solve.specs.declared.first_level.LevelStart.{LevelStart}
use Rattle.bs_solve_lemmas.proofs.Searching.{learnt_range}
use Rattle.bs_watch.proofs.Literals.{negation-negation}
use Rattle.bs_solve.proofs.Seens.{literals_seen_take, length_seen, grows_seen}
use Rattle.bs_solve.proofs.Databases.{distinct_gets}
use Rattle.bs_solve.proofs.Begins.{begun_first}
use Rattle.bs_log.specs.Propagation.{hints_are_unit, last_is_false}
use Rattle.bs_solve.proofs.Grounds.{sole_permuted, ground_reasoned, open_in_front}

-- ---- places without reasons

reasoned_more : (clauses : List Held) (ps more : List Place) → ((p : Place) → Contains more p → p.reason ≡ None) → IsReasoned clauses ps →
    IsReasoned clauses (ps ++ more)
reasoned_more clauses ps [] free r = subst (IsReasoned clauses) (sym (append-nil ps)) r
reasoned_more clauses ps (p ∷ more) free r =
    subst (IsReasoned clauses) (append_assoc ps (p ∷ []) more)
    (reasoned_more clauses (ps ++ p ∷ []) more (λ q there. free q (cons q there)) (reasoned_free clauses ps p (free p (contains_first p more)) r))
  where
    cons : (q : Place) → Contains more q → Contains (p ∷ more) q
    cons q c = (suc c.0, (let h = c.1 in omega (arith, h)), c.2)

apart_front : (places : List Place) (n : ℕ) → AreApart places → AreApart (take n places)
apart_front places n a = record {
  apart = λ i j p q at_i at_j same. a.apart i j p q (get_take n places i p at_i).1 (get_take n places j q at_j).1 same;
}

-- a place behind so many is one of the further ones
behind : (ps more : List Place) (k : ℕ) (p : Place) → slice_get (ps ++ more) k ≡ Some p → (slice_get ps k ≡ Some p) ⊎ Contains more p
behind [] more k p at = inr (Contains_from_get more k p at)
behind (q ∷ ps) more zero p at = inl at
behind (q ∷ ps) more (suc k) p at = behind ps more k p at

-- ---- the level as it was assigned

-- the level's trail, before anything is propagated
pub record IsLevelled (base : ℕ) (proof : ProofLog) (w new : WatchState) (clauses : List Held) (database : Database) (a : Clause) (middle : WatchState) : Type 0 where
  pub level : Level
  pub levels : new.levels ≡ level ∷ []
  pub vars : new.trail.vars ≡ w.trail.vars
  pub low : base ≤ length new.trail.places
  pub mid_front : take base new.trail.places ≡ middle.trail.places
  pub front : take level.start new.trail.places ≡ w.trail.places
  pub holds_entries : HoldsEntries new.lists clauses database (entries proof)
  pub serves : Serves new clauses
  pub begun : AreBegun base new.levels new.trail.places
  pub reasoned : IsReasoned clauses new.trail.places
  pub sound : AreWarranted (standing proof) base a (seen new.trail.places)
  pub ground : IsGround (entries proof) database.shorts.items clauses (take level.start new.trail.places)
  pub implied : (k : ℕ) (p : Place) → base ≤ k → slice_get new.trail.places k ≡ Some p → is_some p.reason ≡ true

sound_assumed : (st : List Clause) (lists : List (List Watcher)) (clauses : List Held) (database : Database) (es : List Entry) (a : Clause) (ps more : List Place) →
    clauses_in es ≡ st → HoldsEntries lists clauses database es → AreApart (ps ++ more) → IsReasoned clauses (ps ++ more) →
    ((k : ℕ) (p : Place) → slice_get ps k ≡ Some p → is_some p.reason ≡ true) →
    All (λ (p : Place). (p.reason ≡ None) × Contains a p.literal) more → AreWarranted st (length (ps ++ more)) a (seen (ps ++ more))
sound_assumed st lists clauses database es a ps more is_st s apart reasoned stand free = record {
  placed = λ k q e.
      let (p, at, is) = get_map_cases seen_place (ps ++ more) k q e in
      let within = get_within (ps ++ more) k p at in
      let count : length (take k (seen (ps ++ more))) ≡ k = length-take-le k (seen (ps ++ more))
      (let n = length_seen (ps ++ more) in omega (arith, n, within)) in
      record {
        unassigned = subst (λ l. IsOpenOn (logged_literals (take k (seen (ps ++ more)))) l) (ap (λ (x : LoggedPlace). x.literal) is)
            (subst (λ ls. IsOpenOn ls p.literal) (sym (literals_seen_take k (ps ++ more))) (open_in_front (ps ++ more) k p apart at));
        implied = λ on. implied_by k q p at is p.reason refl (ap (λ (x : LoggedPlace). x.implied) is ∙ on);
        assumed = λ off below. elim (behind ps more k p at) [
          | inl old ↦ absurd (false≢true (sym off ∙ ap (λ (x : LoggedPlace). x.implied) (sym is) ∙ stand k p old))
          | inr new ↦ subst (Contains a) (ap (λ (x : LoggedPlace). x.literal) is)
              (All-contains (λ (x : Place). (x.reason ≡ None) × Contains a x.literal) more p free new).1
        ];
        quiet = λ off above. absurd (omega (arith, count, within, above));
      };
}
  where
    implied_by : (k : ℕ) (q : LoggedPlace) (p : Place) → slice_get (ps ++ more) k ≡ Some p → seen_place p ≡ q → (o : Option ℕ) → p.reason ≡ o →
        is_some p.reason ≡ true → (c : Clause) × Contains st c × Implies (logged_literals (take k (seen (ps ++ more)))) c q.literal
    implied_by k q p at is None none on = absurd (false≢true (sym (ap is_some none) ∙ on))
    implied_by k q p at is (Some r) some on =
        let f = reasoned.reasoned k p r at some in
        let (e, found, same) = s.spelled r f.0 in (
          e.literals,
          subst (λ cs. Contains cs e.literals) is_st (map_contains (λ (x : Entry). x.literals) es e (found_stands es (id_in clauses r) e found)),
          subst (λ l. Implies (logged_literals (take k (seen (ps ++ more)))) e.literals l) (ap (λ (x : LoggedPlace). x.literal) is)
              (subst (λ ls. Implies ls e.literals p.literal) (sym (literals_seen_take k (ps ++ more)))
              (implies_permuted (literals_of (take k (ps ++ more))) (literals_at clauses r) e.literals p.literal
              (IsPermutation-sym e.literals (literals_at clauses r) same) f.1)),
        )

pub levelled : (proof : ProofLog) (w mid new : WatchState) (clauses : List Held) (database : Database) (a : Clause) → IsAtRest proof w clauses database →
    HasAssumed (decided w) mid a → AreApart mid.trail.places → HasGrown clauses mid new → KeepsService w new →
    IsLevelled (length mid.trail.places) proof w new clauses database a mid
levelled proof w mid new clauses database a rest h apart g serves =
    let v : Level = record { start = length w.trail.places; looked = w.head } in
    let ps : List Place = w.trail.places in
    let base : ℕ = length mid.trail.places in
    let levels : new.levels ≡ v ∷ [] = g.levels ∙ h.levels ∙ ap (λ ls. ls ++ v ∷ []) rest.levels in
    let lists : new.lists ≡ w.lists = g.lists ∙ h.lists in
    let apart_both : AreApart (ps ++ h.more) = subst AreApart h.places apart in
    let long : length ps ≤ base = let n = ap length h.places in let m = longer ps h.more in omega (arith, n, m) in
    let holds_entries : HoldsEntries new.lists clauses database (entries proof) = subst (λ ls. HoldsEntries ls clauses database (entries proof)) (sym lists) rest.holds_entries in
    let mid_front : take base new.trail.places ≡ mid.trail.places = g.grows.front in
    let front : take (length ps) new.trail.places ≡ ps =
    sym (take_front base (length ps) new.trail.places long) ∙ ap (take (length ps)) mid_front ∙ ap (take (length ps)) h.places ∙
    take_at ps h.more (length ps) refl in
    let ps_apart : AreApart ps = subst AreApart (take_at ps h.more (length ps) refl) (apart_front (ps ++ h.more) (length ps) apart_both) in
    let reasoned_mid : IsReasoned clauses (ps ++ h.more) = reasoned_more clauses ps h.more
    (λ p there. (All-contains (λ (x : Place). (x.reason ≡ None) × Contains a x.literal) h.more p h.free there).0)
    (ground_reasoned w.lists clauses database (entries proof) ps rest.holds_entries ps_apart rest.ground) in
    let implied : (k : ℕ) (p : Place) → base ≤ k → slice_get new.trail.places k ≡ Some p → is_some p.reason ≡ true =
    λ k p past e. let f = g.grows.implied k p past e in ap is_some f.reason in
    record {
      level = v;
      levels = levels;
      vars = g.vars ∙ h.vars;
      low = g.grows.longer;
      mid_front = mid_front;
      front = front;
      holds_entries = holds_entries;
      serves = serves.keeps clauses rest.serves;
      begun = subst (λ ls. AreBegun base ls new.trail.places) (sym levels)
          (begun_first base v new.trail.places long (let m = g.grows.longer in omega (arith, long, m)) implied);
      reasoned = reasoned_grows clauses clauses (length mid.levels) mid.trail.places new.trail.places (shuffled_refl clauses) g.grows
          (subst (IsReasoned clauses) (sym h.places) reasoned_mid);
      sound = sound_grows (standing proof) base a (seen mid.trail.places) (seen new.trail.places)
          (subst (λ qs. AreWarranted (standing proof) (length qs) a (seen qs)) (sym h.places)
          (sound_assumed (standing proof) w.lists clauses database (entries proof) a ps h.more
          refl rest.holds_entries apart_both reasoned_mid (λ k p at. let u = rest.ground.each k p at in ap is_some u.reason) h.free))
          (grows_seen new.lists clauses database (entries proof) (length mid.levels) mid.trail.places new.trail.places holds_entries g.grows);
      ground = subst (IsGround (entries proof) database.shorts.items clauses) (sym front) rest.ground;
      implied = implied;
    }
  where
    longer : (xs ys : List Place) → length xs ≤ length (xs ++ ys)
    longer [] ys = omega arith
    longer (x ∷ xs) ys = let h = longer xs ys in omega (arith, h)

-- what stands at the first level's begin
pub ground_first : (base : ℕ) (proof : ProofLog) (w new mid : WatchState) (clauses : List Held) (database : Database) (a : Clause) →
    (l : IsLevelled base proof w new clauses database a mid) → (v : Level) → slice_get new.levels 0 ≡ Some v →
    IsGround (entries proof) database.shorts.items clauses (take v.start new.trail.places)
ground_first base proof w new mid clauses database a l v e =
    subst (λ (x : Level). IsGround (entries proof) database.shorts.items clauses (take x.start new.trail.places))
    (same_some l.level v (sym (ap (λ ls. slice_get ls 0) l.levels) ∙ e)) l.ground

-- ---- all is assigned

get_drop : (n : ℕ) (xs : List ℕ) (k r : ℕ) → n ≤ k → slice_get xs k ≡ Some r → Contains (drop n xs) r
get_drop zero xs k r low at = Contains_from_get xs k r at
get_drop (suc n) [] k r low at = absurd (none_is_not_some r at)
get_drop (suc n) (x ∷ xs) zero r low at = absurd (omega (arith, low))
get_drop (suc n) (x ∷ xs) (suc k) r low at = get_drop n xs k r (omega (arith, low)) at

pub satisfied_paused : (proof : ProofLog) (w mid new : WatchState) (clauses : List Held) (database : Database) (a : Clause) → IsAtRest proof w clauses database → assumed proof ≡ a →
    HasAssumed (decided w) mid a → AreApart mid.trail.places → HasGrown clauses mid new → KeepsService w new →
    All (IsTrueOn (literals_of mid.trail.places)) a → AllSatisfied clauses new (drop (length w.trail.places) database.shorts.items) →
    IsSomePause proof new clauses database
satisfied_paused proof w mid new clauses database a rest is h apart g serves given all =
    let base : ℕ = length mid.trail.places in
    let l = levelled proof w mid new clauses database a rest h apart g serves in (
      base,
      record {
        running = record {
          holds_entries = l.holds_entries;
          serves = l.serves;
          begun = l.begun;
          satisfied = record {
            now = λ r there. satisfied l r there;
            below = λ r v there e. absurd (let inside = get_within new.levels 1 v e in let n = ap length l.levels in omega (arith, inside, n));
          };
          reasoned = l.reasoned;
          ground = λ v e. ground_first base proof w new mid clauses database a l v e;
        };
        sound = subst (λ x. AreWarranted (standing proof) base x (seen new.trail.places)) (sym is) l.sound;
        given = subst (All (IsTrueOn (logged_literals (take base (seen new.trail.places))))) (sym is)
            (subst (λ ls. All (IsTrueOn ls) a) (sym (literals_seen_take base new.trail.places ∙ ap literals_of l.mid_front)) given);
        low = l.low;
      },
    )
  where
    satisfied : IsLevelled (length mid.trail.places) proof w new clauses database a mid → (r : ℕ) → Contains database.shorts.items r →
        HasTrue (literals_of new.trail.places) (literals_at clauses r)
    satisfied l r there =
        let (k, at) = get_from_Contains database.shorts.items r there in
        elim (cases_lt k (length w.trail.places)) [
          | inl stands ↦
              let (p, found) = some_at w.trail.places k stands in
              let u = rest.ground.each k p found in
              let one : u.ref ≡ r = same_some u.ref r (sym u.at ∙ at) in
              let here : slice_get new.trail.places k ≡ Some p =
              (get_take l.level.start new.trail.places k p (subst (λ ps. slice_get ps k ≡ Some p) (sym l.front) found)).1 in
              record {
                literal = p.literal;
                stands = subst (λ c. Contains c p.literal) (sym (ap (literals_at clauses) (sym one) ∙ u.sole)) (contains_first p.literal []);
                holds = Contains_from_get (literals_of new.trail.places) k p.literal (get_map (λ (x : Place). x.literal) new.trail.places k p here);
              }
          | inr later ↦ all.each r (get_drop (length w.trail.places) database.shorts.items k r later at)
        ]

-- ---- a short clause is false

pub satisfied_clashes : (proof : ProofLog) (w mid new : WatchState) (clauses : List Held) (database : Database) (a : Clause) (r : ℕ) → IsAtRest proof w clauses database →
    assumed proof ≡ a → HasAssumed (decided w) mid a → AreApart mid.trail.places → HasGrown clauses mid new → KeepsService w new →
    All (HasVariables w.trail.vars) (standing proof) → All (λ c. has_distinct_variables c ≡ true) (standing proof) →
    IsConflictAt clauses (literals_of new.trail.places) r → IsSomeFirstConflict proof new clauses database r
satisfied_clashes proof w mid new clauses database a r rest is h apart g serves range distinct clash =
    let base : ℕ = length mid.trail.places in
    let l = levelled proof w mid new clauses database a rest h apart g serves in (
      base,
      record {
        holds_entries = l.holds_entries;
        serves = l.serves;
        reasoned = l.reasoned;
        sound = subst (λ x. AreWarranted (standing proof) base x (seen new.trail.places)) (sym is) l.sound;
        implied = λ k q above e.
            let (p, at, same) = get_map_cases seen_place new.trail.places k q e in
            ap (λ (x : LoggedPlace). x.implied) (sym same) ∙ l.implied k p above at;
        range = subst (λ n. All (HasVariables n) (standing proof)) (sym l.vars) range;
        distinct = distinct;
        clash = clash;
        some = let n = ap length l.levels in omega (arith, n);
        ground = λ v e. ground_first base proof w new mid clauses database a l v e;
      },
    )

-- ---- an assumption is false

not_both : (a : Clause) (l : Literal) → has_distinct_variables a ≡ true → Contains a l → Contains a (negation l) → ⊥
not_both a l distinct there other =
    let (i, at) = get_from_Contains a l there in
    let (j, at_j) = get_from_Contains a (negation l) other in
    let same : i ≡ j = distinct_gets a distinct i j l (negation l) at at_j refl in
    differs l.positive (ap (λ (x : Literal). x.positive) (same_some l (negation l) (sym at ∙ ap (slice_get a) same ∙ at_j)))
  where
    differs : (b : Bool) → b ≡ not b → ⊥
    differs true e = true≢false e
    differs false e = false≢true e

pub satisfied_denies : (proof : ProofLog) (w mid new : WatchState) (clauses : List Held) (database : Database) (a : Clause) (l : Literal) → IsAtRest proof w clauses database →
    assumed proof ≡ a → has_distinct_variables a ≡ true → HasAssumed (decided w) mid a → AreApart mid.trail.places → HasGrown clauses mid new →
    KeepsService w new → All (HasVariables w.trail.vars) (standing proof) → Contains a l → IsFalseOn (literals_of mid.trail.places) l →
    IsFailedAssumption proof new clauses database l
satisfied_denies proof w mid new clauses database a l rest is distinct h apart g serves range in_a lost =
    let base : ℕ = length mid.trail.places in
    let e = levelled proof w mid new clauses database a rest h apart g serves in
    let (k, found) = get_from_Contains (literals_of mid.trail.places) (negation l) lost in
    let (p, at, same) = get_map_cases (λ (x : Place). x.literal) mid.trail.places k (negation l) found in
    let stands : slice_get w.trail.places k ≡ Some p =
    elim (behind w.trail.places h.more k p (subst (λ ps. slice_get ps k ≡ Some p) h.places at)) [
      | inl old ↦ old
      | inr new_one ↦ absurd (not_both a l distinct in_a (subst (Contains a) same
          (All-contains (λ (x : Place). (x.reason ≡ None) × Contains a x.literal) h.more p h.free new_one).1))
    ] in
    record {
      holds_entries = e.holds_entries;
      serves = e.serves;
      level = e.level;
      levels = e.levels;
      ground = e.ground;
      at = k;
      place = p;
      there = subst (λ ps. slice_get ps k ≡ Some p) (sym e.front) stands;
      is = same;
      assumes = subst (λ x. Contains x l) (sym is) in_a;
      range = subst (λ n. All (HasVariables n) (standing proof)) (sym e.vars) range;
    }

-- the place of the denied literal's variable
pub failed_assumption_place : (proof : ProofLog) (w : WatchState) (clauses : List Held) (database : Database) (l : Literal) (d : IsFailedAssumption proof w clauses database l) →
    IsPlaceOf w.trail.places l d.place
failed_assumption_place proof w clauses database l d = record {
  at = d.at;
  there = (get_take d.level.start w.trail.places d.at d.place d.there).1;
  same = ap (λ (x : Literal). x.variable) d.is;
}

pub failed_assumption_reason : (proof : ProofLog) (w : WatchState) (clauses : List Held) (database : Database) (l : Literal) → IsFailedAssumption proof w clauses database l →
    ¬ HasNoReason w.trail.places l
failed_assumption_reason proof w clauses database l d none =
    let u = d.ground.each d.at d.place d.there in
    none_is_not_some u.ref (sym (none.none d.place (failed_assumption_place proof w clauses database l d)) ∙ u.reason)

-- the reason is the unit
pub record IsUnitFor (proof : ProofLog) (clauses : List Held) (l : Literal) (r : ℕ) : Type 0 where
  pub live : is_live clauses r ≡ true
  pub entry : Entry
  pub found : entry_of (entries proof) (id_in clauses r) ≡ Some entry
  pub literals : entry.literals ≡ negation l ∷ []

pub failed_assumption_unit : (proof : ProofLog) (w : WatchState) (clauses : List Held) (database : Database) (l : Literal) (r : ℕ) → AreApart w.trail.places →
    IsFailedAssumption proof w clauses database l → IsImpliedBy w.trail.places l r → IsUnitFor proof clauses l r
failed_assumption_unit proof w clauses database l r apart d (p, here, by) =
    let u = d.ground.each d.at d.place d.there in
    let mine = failed_assumption_place proof w clauses database l d in
    let index : here.at ≡ mine.at = apart.apart here.at mine.at p d.place here.there mine.there (here.same ∙ sym mine.same) in
    let one : p ≡ d.place = same_some p d.place (sym here.there ∙ ap (slice_get w.trail.places) index ∙ mine.there) in
    let ref : u.ref ≡ r = same_some u.ref r (sym u.reason ∙ ap (λ (x : Place). x.reason) (sym one) ∙ by) in
    let live : is_live clauses r ≡ true = subst (λ x. is_live clauses x ≡ true) ref
    (All-contains (λ x. is_live clauses x ≡ true) database.shorts.items u.ref d.holds_entries.listed (Contains_from_get database.shorts.items d.at u.ref u.at)) in
    let sole : literals_at clauses r ≡ negation l ∷ [] = ap (literals_at clauses) (sym ref) ∙ u.sole ∙ ap (λ x. x ∷ []) d.is in
    let (e, found, same) = d.holds_entries.spelled r live in
    record {
      live = live;
      entry = e;
      found = found;
      literals = sole_permuted (negation l) e.literals (IsPermutation-sym e.literals (negation l ∷ []) (subst (IsPermutation e.literals) sole same));
    }

-- ---- the lemma of one hint

pub learnt_unit : (es : List Entry) (id : ℕ) (e : Entry) (x : Literal) (lits : Clause) (ids : List ℕ) → entry_of es id ≡ Some e → e.literals ≡ x ∷ [] →
    lits ≡ x ∷ [] → ids ≡ id ∷ [] → IsLoggedLearnt es lits ids
learnt_unit es id e x lits ids found sole lits_is ids_is =
    let one : clauses_of es (id ∷ []) ≡ (x ∷ []) ∷ [] =
    ap (λ o. cons_option (option_map (λ (y : Entry). y.literals) o) []) found ∙ ap (λ (c : Clause). c ∷ []) sole in
    subst (λ ls. IsLoggedLearnt es ls ids) (sym lits_is) (subst (IsLoggedLearnt es (x ∷ [])) (sym ids_is) (record {
      named = All-cons (λ h. is_some (entry_of es h) ≡ true) id [] (ap is_some found) (All-nil (λ h. is_some (entry_of es h) ≡ true));
      distinct = refl;
      unit = subst (λ cs. IsTrue (hints_are_unit (x ∷ []) cs)) (sym one) refl;
      last = subst (λ cs. IsTrue (last_is_false (x ∷ []) cs)) (sym one) (and_from (has_literal (negation x ∷ []) (negation x)) true
          (has-from_Contains (negation x ∷ []) (negation x) (contains_first (negation x) [])) refl);
      resolvent = subst (IsResolventOf (x ∷ [])) (sym one) (record {
        used = λ k l e2. absurd (none_is_not_some l e2);
        literals = λ l. (
          (λ there. (any_first (λ (c : Clause). Contains c l) (x ∷ []) [] there, All-nil (λ (m : Literal). m.variable ≢ l.variable))),
          (λ both. elim (any_cases (λ (c : Clause). Contains c l) (x ∷ []) [] both.0) [ inl there ↦ there | inr none ↦ absurd (omega (arith, none.2)) ]),
        );
      });
    }))

-- ---- how the level begins

pub begun_vars : (w new : WatchState) (clauses : List Held) (shorts : List ℕ) (a : Clause) (s : LevelStart) → HasBegunLevel (decided w) new clauses shorts a s →
    new.trail.vars ≡ w.trail.vars
begun_vars w new clauses shorts a s h = h.grown.vars ∙ h.assumes.vars

pub begun_denies : (proof : ProofLog) (w new : WatchState) (clauses : List Held) (database : Database) (a : Clause) (l : Literal) → IsAtRest proof w clauses database →
    assumed proof ≡ a → has_distinct_variables a ≡ true → All (HasVariables w.trail.vars) (standing proof) → KeepsService w new →
    HasBegunLevel (decided w) new clauses (drop (length w.trail.places) database.shorts.items) a (Failed l) → IsFailedAssumption proof new clauses database l
begun_denies proof w new clauses database a l rest is distinct range serves h =
    satisfied_denies proof w h.middle new clauses database a l rest is distinct h.assumes h.apart h.grown serves range h.starts.0 h.starts.1

pub begun_clashes : (proof : ProofLog) (w new : WatchState) (clauses : List Held) (database : Database) (a : Clause) (r : ℕ) → IsAtRest proof w clauses database →
    assumed proof ≡ a → All (HasVariables w.trail.vars) (standing proof) → All (λ c. has_distinct_variables c ≡ true) (standing proof) → KeepsService w new →
    HasBegunLevel (decided w) new clauses (drop (length w.trail.places) database.shorts.items) a (Clash r) → IsSomeFirstConflict proof new clauses database r
begun_clashes proof w new clauses database a r rest is range distinct serves h =
    satisfied_clashes proof w h.middle new clauses database a r rest is h.assumes h.apart h.grown serves range distinct h.starts.1

pub begun_pauses : (proof : ProofLog) (w new : WatchState) (clauses : List Held) (database : Database) (a : Clause) → IsAtRest proof w clauses database →
    assumed proof ≡ a → KeepsService w new →
    HasBegunLevel (decided w) new clauses (drop (length w.trail.places) database.shorts.items) a Assigned → IsSomePause proof new clauses database
begun_pauses proof w new clauses database a rest is serves h =
    satisfied_paused proof w h.middle new clauses database a rest is h.assumes h.apart h.grown serves h.starts.0 h.starts.1

-- ---- an assumption is denied

pub denied_ends : (proof : ProofLog) (denied : Literal) (lits : Clause) → lits ≡ negation denied ∷ [] → Contains (assumed proof) denied →
    denies (assumed proof) lits ≡ true
denied_ends proof denied lits is there =
    ap (denies (assumed proof)) is ∙ and_from (has_literal (assumed proof) (negation (negation denied))) true
    (ap (has_literal (assumed proof)) (negation-negation denied) ∙ has-from_Contains (assumed proof) denied there) refl

pub denied_by : (proof new_proof : ProofLog) (w mid new : WatchState) (clauses after : List Held) (database more : Database) (id other unit : ℕ) (denied : Literal)
    (lits : Clause) (hints : List ℕ) → IsFailedAssumption proof w clauses database denied → IsUnitFor proof clauses denied unit → lits ≡ negation denied ∷ [] →
    HasVariables w.trail.vars (negation denied ∷ []) → IsLoggedLearnt (entries proof) lits hints →
    mid.levels ≡ take 0 w.levels → mid.lists ≡ w.lists → IfSome (slice_get w.levels 0) (HasGoneBack w mid) →
    Serves new after → new.trail ≡ mid.trail → new.levels ≡ mid.levels → HasAdded mid.lists new.lists clauses after database more
    (record { id = other; origin = FromConflict; literals = lits }) → other ≡ id → entry_of (entries proof) other ≡ None → id ≡ next_id proof →
    new_proof ≡ with_lemma proof id lits hints →
    entries new_proof ≡ entries proof ++ record { id = id; origin = FromConflict; literals = lits } ∷ [] →
    entry_of (live new_proof.problem new_proof.history) id ≡ Some (record { id = id; origin = FromConflict; literals = lits }) →
    HasEndedBy proof new_proof w.trail.vars new after more id
denied_by proof new_proof w mid new clauses after database more id other unit denied lits hints d u is_lits range learnt levels lists back serves trail new_levels
    holds_entries is_other unused is line grown entry =
    let at : slice_get w.levels 0 ≡ Some d.level = ap (λ ls. slice_get ls 0) d.levels in
    let h = subst (λ o. IfSome o (HasGoneBack w mid)) at back in
    let places : mid.trail.places ≡ take d.level.start w.trail.places = ap (λ (t : TrailState). t.places) h.trail in
    record {
      refuted = record {
        lemma = lits;
        logged = record {
          hints = hints;
          proof = line;
          next = is;
          grown = grown;
          stands = stands_grown proof new_proof (record { id = id; origin = FromConflict; literals = lits }) grown;
          entry = entry;
        };
        ends = denied_ends proof denied lits is_lits d.assumes;
        distinct = learnt.distinct;
        range = λ n all. learnt_range (entries proof) n lits hints learnt all;
      };
      rest = record {
        holds_entries = subst (HoldsEntries new.lists after more)
            (ap (λ n. entries proof ++ record { id = n; origin = FromConflict; literals = lits } ∷ []) is_other ∙ sym grown)
            (holds_entries.more (entries proof) unused (subst (λ ls. HoldsEntries ls clauses database (entries proof)) (sym lists) d.holds_entries));
        serves = serves;
        ground = subst (IsGround (entries new_proof) more.shorts.items after) (sym (ap (λ (t : TrailState). t.places) trail ∙ places))
            (subst (λ es. IsGround es more.shorts.items after (take d.level.start w.trail.places))
            (ap (λ n. entries proof ++ record { id = n; origin = FromConflict; literals = lits } ∷ []) is_other ∙ sym grown)
            (holds_entries.ground (entries proof) unused (subst (λ ls. HoldsEntries ls clauses database (entries proof)) (sym lists) d.holds_entries)
            (take d.level.start w.trail.places) d.ground));
        levels = new_levels ∙ levels;
      };
      vars_is = ap (λ (t : TrailState). t.vars) trail ∙ ap (λ (t : TrailState). t.vars) h.trail;
    }

pub denied_is_new : (proof : ProofLog) (denied : Literal) (lits : Clause) → lits ≡ negation denied ∷ [] → Contains (assumed proof) denied →
    IsNew proof.problem proof.history lits
denied_is_new proof denied lits is there = inl (denied_ends proof denied lits is there)

-- the denied literal's negation is on the trail
pub denied_range : (proof : ProofLog) (w : WatchState) (clauses : List Held) (database : Database) (l : Literal) → IsFailedAssumption proof w clauses database l →
    HasVariables w.trail.vars (literals_of w.trail.places) → HasVariables w.trail.vars (negation l ∷ [])
denied_range proof w clauses database l d range =
    let mine = failed_assumption_place proof w clauses database l d in
    let here = Contains_from_get (literals_of w.trail.places) mine.at d.place.literal
    (get_map (λ (x : Place). x.literal) w.trail.places mine.at d.place mine.there) in
    All-cons (IsWithin w.trail.vars) (negation l) [] (subst (IsWithin w.trail.vars) d.is
    (All-contains (IsWithin w.trail.vars) (literals_of w.trail.places) d.place.literal range here)) (All-nil (IsWithin w.trail.vars))

pub denied_variable : (proof : ProofLog) (w : WatchState) (clauses : List Held) (database : Database) (l : Literal) → IsFailedAssumption proof w clauses database l →
    HasVariables w.trail.vars (literals_of w.trail.places) → l.variable ≤ w.trail.vars
denied_variable proof w clauses database l d range =
    (All-contains (IsWithin w.trail.vars) (negation l ∷ []) (negation l) (denied_range proof w clauses database l d range) (contains_first (negation l) [])).1

pub denied_vars : (proof : ProofLog) (w mid : WatchState) (clauses : List Held) (database : Database) (l : Literal) → IsFailedAssumption proof w clauses database l →
    IfSome (slice_get w.levels 0) (HasGoneBack w mid) → mid.trail.vars ≡ w.trail.vars
denied_vars proof w mid clauses database l d back =
    ap (λ (t : TrailState). t.vars) (subst (λ o. IfSome o (HasGoneBack w mid)) (ap (λ ls. slice_get ls 0) d.levels) back).trail
