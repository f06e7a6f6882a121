-- A clause comes while literals are assigned.
use Rattle.std.proofs.Common.{◌≡◌, ◌≢◌, ℕ, ◌-◌, ◌<◌, ◌≤◌, arith, true, List, [], ◌∷◌, ◌++◌, length, take, refl, sym, ap, subst, ◌∙◌, inl, inr, Some, None}
use Rattle.std.specs.Prelude.{All, Contains, slice_get, option_map, unwrap_or, IfSome, IsPermutation}
use Rattle.std.proofs.lemmas.Bool.{cases_lt}
use Rattle.std.proofs.lemmas.List.{length-take-le, length_push, take-append-le, take-take, take_all}
use Rattle.std.proofs.lemmas.List.Elements.{All-contains}
use Rattle.std.proofs.lemmas.List.Sorted.{IsPermutation-sym, Contains-permutation, All-permutation}
use Rattle.bs_clause.specs.Literal.{Literal, Clause, negation}
use Rattle.bs_clause.specs.Range.{IsWithin}
use Rattle.bs_arena.specs.Arena.{Held, held_at, literals_at, KeepsOthers}
use Rattle.bs_watch.specs.declared.watch.Level.{Level}
use Rattle.bs_watch.specs.Trail.{IsTrueOn, IsFalseOn, IsOpenOn}
use Rattle.bs_watch.specs.Places.{Place, TrailState, AreApart, IsUnassigned, IsOnLevel, IsLevelOf, literals_of}
use Rattle.bs_watch.specs.Look.{HasTrue}
use Rattle.bs_watch.specs.Scene.{IsWatchable}
use Rattle.bs_watch.specs.Choice.{AreHighest}
use Rattle.bs_watch.specs.Watch.{WatchState, Serves, AreLevelled, MayAttach, HasGoneBack, assigned}
use Rattle.bs_watch.proofs.Gets.{some_at, get_from_Contains, Contains_from_get, same_some, get_within, get_take, take_get, get_map}
use Rattle.bs_watch.proofs.TableLemmas.{one_level}
use Rattle.bs_watch.proofs.CallerLemmas.{cancelled_open, cancelled_keeps, highest_unit, may_attach_open}
use Rattle.bs_solve_lemmas.specs.Reasons.{IsReasoned}
use Rattle.bs_solve_lemmas.proofs.AnalysisCallerLemmas.{reasoned_take, reasoned_kept}
use Rattle.bs_solve_lemmas.specs.Place.{LoggedPlace}
use Rattle.bs_solve_lemmas.specs.Places.{AreWarranted, logged_literals}
use Rattle.bs_solve_lemmas.specs.Point.{IsCut}
use Rattle.bs_solve_lemmas.specs.ProofLog.{ProofLog, standing}
use Rattle.bs_solve_lemmas.specs.Search.{assumed}
use Rattle.bs_solve_lemmas.proofs.Places.{sound_take, sound_clause}
use Rattle.bs_solve_lemmas.proofs.Quiet.{learnt_clauses_keep_quiet}
use Rattle.bs_watch.proofs.Literals.{negation-negation}
use Rattle.bs_solve_lemmas.proofs.Fronts.{place_of, open_earlier}
use Rattle.bs_solve_lemmas.proofs.Backjumps.{learns}
use Rattle.bs_solve_lemmas.proofs.Endings.{given_after}
use Rattle.bs_solve.specs.declared.blocking.Retreat.{Retreat}
use Rattle.bs_solve.specs.declared.blocking.Retreat.TheVariants.{Bottom, Implied, Open}
use Rattle.bs_log.specs.declared.origin.Origin.TheVariants.{Blocked}
use Rattle.bs_log.specs.Refusal.{entry_of}
use Rattle.bs_solve.specs.declared.database.Database.{Database}
use Rattle.bs_solve.specs.Database.{entries, is_live, id_in, HoldsEntries, HasJoined, rows_for}
use Rattle.bs_solve.specs.Seen.{seen}
use Rattle.bs_solve.specs.Begun.{AreBegun, AreSatisfied}
use Rattle.bs_solve.specs.Backjump.{HasTaken}
use Rattle.bs_solve.specs.Pausing.{IsPaused, IsKept, IsGrounded}
use Rattle.bs_solve.specs.Ground.{IsGround, IsOff}
use Rattle.bs_solve.proofs.Grounds.{ground_added}
use Rattle.bs_solve.specs.Blocking.{AreLast, IsBetween, IsRetreat, HasImplied, HasOpened, HasEmptied, HasGoneFor, HasHeld}
use Rattle.bs_solve.proofs.Entries.{stands_grown}
use Rattle.bs_solve.proofs.Databases.{others_added, others_trans, holds_joined}
use Rattle.bs_solve.proofs.Seens.{literals_seen, literals_seen_take, take_seen, length_seen}
use Rattle.bs_solve.proofs.Begins.{begun_cut, satisfied_cut}
use Rattle.bs_solve.proofs.Backs.{Back, false_below}
use Rattle.bs_solve.proofs.Takings.{gone_back, levels_assigned}
use Rattle.bs_solve.proofs.LearningLemmas.{place_apart, cut_of, seen_after, running_after}

-- ---- the retreat

pub retreat_from : (places : List Place) (c : Clause) (first second : Literal) (high low : ℕ) (retreat : Retreat) → 2 ≤ length c →
    slice_get c 0 ≡ Some first → slice_get c 1 ≡ Some second → AreHighest places c → IsFalseOn (literals_of places) first →
    IsLevelOf places first high → IsLevelOf places second low → IsBetween high low retreat → IsRetreat places c retreat
retreat_from places c first second high low retreat two at_first at_second highest lost on_first on_second between = by retreat between
  where
    last : AreLast places c
    last = record {
      long = two;
      first = first;
      second = second;
      at_first = at_first;
      at_second = at_second;
      highest = highest;
      lost = lost;
      high = high;
      low = low;
      on_first = on_first.on;
      on_second = on_second.on;
    }

    by : (s : Retreat) → IsBetween high low s → IsRetreat places c s
    by Bottom b = tt
    by (Implied n) b = (last, b)
    by (Open n) b = (last, b)

-- the second literal is false too
pub second_lost : (places : List Place) (c : Clause) (first second : Literal) → AreHighest places c → slice_get c 0 ≡ Some first →
    slice_get c 1 ≡ Some second → IsFalseOn (literals_of places) first → IsFalseOn (literals_of places) second
second_lost places c first second h at_first at_second lost = (h.first 1 first second at_first at_second lost).0

apart_two : (vars : ℕ) (c : Clause) → IsWatchable vars c → (first second : Literal) → slice_get c 0 ≡ Some first → slice_get c 1 ≡ Some second → first ≢ second
apart_two vars c can first second at_first at_second e =
    let clash = can.apart 0 1 first second at_first at_second (ap (λ (y : Literal). y.variable) e) in omega (arith, clash)

-- ---- one literal is open

level_within : (places : List Place) (levels : List Level) (l : Literal) (n : ℕ) → AreLevelled places levels → IsOnLevel places l n → n ≤ length levels
level_within places levels l n a on = let few = a.few on.1.at on.0 on.1.there in let is = on.2 in omega (arith, few, is)

pub back_implied : (w : WatchState) (c : Clause) (n : ℕ) → AreLevelled w.trail.places w.levels → AreApart w.trail.places → IsWatchable w.trail.vars c →
    (s : IsRetreat w.trail.places c (Implied n)) → (v : Level) × Back w c c s.0.first n v
back_implied w c n a apart can s =
    let l = s.0 in
    let is_low = s.1.0 in
    let one = s.1.1 in
    let above = s.1.2 in
    let u : Literal = l.first in
    let m : Literal = l.second in
    let few = level_within w.trail.places w.levels u l.high a l.on_first in
    let on_m : IsOnLevel w.trail.places m n = subst (IsOnLevel w.trail.places m) (sym is_low) l.on_second in
    let m_lost = second_lost w.trail.places c u m l.highest l.at_first l.at_second l.lost in
    let (v, at) = some_at w.levels n (omega (arith, few, above)) in
    let unit = highest_unit w.trail.places w.levels n v c m a apart at l.highest l.at_second m_lost on_m in (
      v,
      record {
        first = l.at_first;
        one = one;
        high = omega (arith, few, above);
        at = at;
        alone = λ y there.
            let (k, at_y) = get_from_Contains c y there in
            elim (cases_lt k 1) [
              | inl zeroth ↦ inl (same_some y u (sym at_y ∙ ap (slice_get c) (let e : k ≡ 0 = omega (arith, zeroth) in e) ∙ l.at_first))
              | inr later ↦ inr (unit k y later at_y)
            ];
        lowest = λ j y low before e. record {
          literal = m;
          stands = Contains_from_get c 1 m l.at_second;
          other = λ e2. apart_two w.trail.vars c can u m l.at_first l.at_second (sym e2);
          not_false = λ lost.
              let (i, on_i, below) = false_below w.trail.places w.levels j y m a e lost in
              let same_level = one_level w.trail.places m n i apart on_m on_i in
              omega (arith, same_level, below, before);
        };
        unit = λ few2. absurd (let two = l.long in omega (arith, few2, two));
        open_u = cancelled_open w.trail.places w.levels n v u l.high a apart at l.on_first above;
        second = λ y e.
            subst (λ z. IsOnLevel (take v.start w.trail.places) z n) (same_some m y (sym l.at_second ∙ e))
            (cancelled_keeps w.trail.places w.levels n v m n a at on_m (omega arith));
      },
    )

-- the first literal may be assigned once the trail has gone back
pub first_is_open : (old mid : WatchState) (c : Clause) (u l : Literal) (n : ℕ) (v : Level) → IsWatchable old.trail.vars c → Back old c c u n v →
    IfSome (slice_get old.levels n) (HasGoneBack old mid) → slice_get c 0 ≡ Some l → IsUnassigned mid.trail l
first_is_open old mid c u l n v can b back at =
    let h = gone_back old mid n v b.at back in
    let is : l ≡ u = same_some l u (sym at ∙ b.first) in
    subst (λ t. IsUnassigned t l) (sym h.trail)
    (subst (IsUnassigned (record { vars = old.trail.vars; places = take v.start old.trail.places })) (sym is) (record {
      in_range = (All-contains (IsWithin old.trail.vars) c u can.range (Contains_from_get c 0 u b.first)).1;
      unassigned = b.open_u;
    }))

pub places_implied : (old mid now : WatchState) (c : Clause) (u l : Literal) (n r : ℕ) (v : Level) → Back old c c u n v →
    IfSome (slice_get old.levels n) (HasGoneBack old mid) → slice_get c 0 ≡ Some l → mid.levels ≡ take n old.levels → now ≡ assigned mid l (Some r) →
    now.trail.places ≡ take v.start old.trail.places ++ record { literal = u; reason = Some r; level = length (take n old.levels) } ∷ []
places_implied old mid now c u l n r v b back at levels is =
    let h = gone_back old mid n v b.at back in
    ap (λ (x : WatchState). x.trail.places) is ∙
    ap (λ ps. ps ++ record { literal = l; reason = Some r; level = length mid.levels } ∷ []) (ap (λ (t : TrailState). t.places) h.trail) ∙
    ap (λ m. take v.start old.trail.places ++ record { literal = m; reason = Some r; level = length mid.levels } ∷ []) (same_some l u (sym at ∙ b.first)) ∙
    ap (λ k. take v.start old.trail.places ++ record { literal = u; reason = Some r; level = length k } ∷ []) levels

pub has_implied : (old mid now new : WatchState) (clauses : List Held) (shorts more : List ℕ) (u l : Literal) (n r : ℕ) (v : Level) →
    2 ≤ length (literals_at clauses r) → IsFalseOn (literals_of old.trail.places) u → Back old (literals_at clauses r) (literals_at clauses r) u n v →
    IfSome (slice_get old.levels n) (HasGoneBack old mid) → slice_get (literals_at clauses r) 0 ≡ Some l → mid.levels ≡ take n old.levels →
    mid.lists ≡ old.lists → now ≡ assigned mid l (Some r) → HasJoined now new shorts more clauses r → HasImplied old new clauses shorts more r
has_implied old mid now new clauses shorts more u l n r v two lost b back at levels lists is joined = record {
  literal = u;
  level = n;
  end = v;
  middle = now;
  two = two;
  first = b.first;
  lost = lost;
  one = b.one;
  at = b.at;
  alone = b.alone;
  lowest = b.lowest;
  free = b.open_u;
  levels = levels_assigned old mid now n r l levels is;
  places = places_implied old mid now (literals_at clauses r) u l n r v b back at levels is;
  vars = ap (λ (x : WatchState). x.trail.vars) is ∙ ap (λ (t : TrailState). t.vars) (gone_back old mid n v b.at back).trail;
  lists = ap (λ (x : WatchState). x.lists) is ∙ lists;
  joined = joined;
}

-- ---- two literals are open

pub record BackOpen (w : WatchState) (c : Clause) (n : ℕ) (v : Level) : Type 0 where
  pub first : Literal
  pub second : Literal
  pub at_first : slice_get c 0 ≡ Some first
  pub at_second : slice_get c 1 ≡ Some second
  pub one : 1 ≤ n
  pub high : n < length w.levels
  pub at : slice_get w.levels n ≡ Some v
  pub open_first : IsOpenOn (literals_of (take v.start w.trail.places)) first
  pub open_second : IsOpenOn (literals_of (take v.start w.trail.places)) second

pub back_open : (w : WatchState) (c : Clause) (n : ℕ) → AreLevelled w.trail.places w.levels → AreApart w.trail.places →
    IsRetreat w.trail.places c (Open n) → (v : Level) × BackOpen w c n v
back_open w c n a apart s =
    let l = s.0 in
    let one = s.1.0 in
    let above = s.1.1 in
    let above_too = s.1.2 in
    let few = level_within w.trail.places w.levels l.first l.high a l.on_first in
    let (v, at) = some_at w.levels n (omega (arith, few, above)) in (
      v,
      record {
        first = l.first;
        second = l.second;
        at_first = l.at_first;
        at_second = l.at_second;
        one = one;
        high = omega (arith, few, above);
        at = at;
        open_first = cancelled_open w.trail.places w.levels n v l.first l.high a apart at l.on_first above;
        open_second = cancelled_open w.trail.places w.levels n v l.second l.low a apart at l.on_second above_too;
      },
    )

pub may_attach_opened : (old mid : WatchState) (c : Clause) (n : ℕ) (v : Level) → BackOpen old c n v → IfSome (slice_get old.levels n) (HasGoneBack old mid) →
    MayAttach mid c
may_attach_opened old mid c n v b back =
    let h = gone_back old mid n v b.at back in
    let places : mid.trail.places ≡ take v.start old.trail.places = ap (λ (t : TrailState). t.places) h.trail in
    may_attach_open mid c (λ m first lost.
    let lost_there : IsFalseOn (literals_of (take v.start old.trail.places)) m = subst (λ ps. IsFalseOn (literals_of ps) m) places lost in
    elim first as (λ _. ⊥) [
      | inl zeroth ↦ b.open_first.1
          (subst (IsFalseOn (literals_of (take v.start old.trail.places))) (same_some m b.first (sym zeroth ∙ b.at_first)) lost_there)
      | inr one ↦ b.open_second.1
          (subst (IsFalseOn (literals_of (take v.start old.trail.places))) (same_some m b.second (sym one ∙ b.at_second)) lost_there)
    ])

pub has_opened : (old mid new : WatchState) (clauses : List Held) (shorts more : List ℕ) (n r : ℕ) (v : Level) →
    IsWatchable old.trail.vars (literals_at clauses r) → BackOpen old (literals_at clauses r) n v →
    IfSome (slice_get old.levels n) (HasGoneBack old mid) → mid.levels ≡ take n old.levels → mid.lists ≡ old.lists →
    HasJoined mid new shorts more clauses r → HasOpened old new clauses shorts more r
has_opened old mid new clauses shorts more n r v can b back levels lists joined =
    let h = gone_back old mid n v b.at back in
    record {
      first = b.first;
      second = b.second;
      level = n;
      end = v;
      middle = mid;
      two = can.long;
      other = apart_two old.trail.vars (literals_at clauses r) can b.first b.second b.at_first b.at_second;
      stands_first = Contains_from_get (literals_at clauses r) 0 b.first b.at_first;
      stands_second = Contains_from_get (literals_at clauses r) 1 b.second b.at_second;
      open_first = b.open_first;
      open_second = b.open_second;
      one = b.one;
      at = b.at;
      levels = levels;
      places = ap (λ (t : TrailState). t.places) h.trail;
      vars = ap (λ (t : TrailState). t.vars) h.trail;
      lists = lists;
      joined = joined;
    }

-- ---- what stands for good

pub emptied : (old mid : WatchState) (c : Clause) → IsGrounded old c → IfSome (slice_get old.levels 0) (HasGoneBack old mid) →
    (length old.levels ≤ 0 → mid ≡ old) → IsOff mid.trail.places c × (mid.trail.vars ≡ old.trail.vars)
emptied old mid c g back same = elim (cases_lt 0 (length old.levels)) [
  | inl some ↦
      let (v, at) = some_at old.levels 0 some in
      let h = subst (λ o. IfSome o (HasGoneBack old mid)) at back in
      (subst (λ ps. IsOff ps c) (sym (ap (λ (t : TrailState). t.places) h.trail)) (g.first v at), ap (λ (t : TrailState). t.vars) h.trail)
  | inr none ↦ (
    subst (λ ps. IsOff ps c) (sym (ap (λ (x : WatchState). x.trail.places) (same none))) (g.none (no_levels old.levels none)),
    ap (λ (x : WatchState). x.trail.vars) (same none),
  )
]
  where
    no_levels : (ls : List Level) → length ls ≤ 0 → ls ≡ []
    no_levels [] h = refl
    no_levels (l ∷ ls) h = absurd (omega (arith, h))

-- the literals in another order
pub grounded_permuted : (w : WatchState) (c d : Clause) → IsPermutation c d → IsGrounded w c → IsGrounded w d
grounded_permuted w c d same g = record {
  none = λ e. All-permutation (IsOpenOn (literals_of w.trail.places)) c d same (g.none e);
  first = λ v e. All-permutation (IsOpenOn (literals_of (take v.start w.trail.places))) c d same (g.first v e);
}

pub has_emptied : (old mid new : WatchState) (clauses : List Held) (shorts more : List ℕ) (r : ℕ) → IsGrounded old (literals_at clauses r) →
    mid.levels ≡ take 0 old.levels → mid.lists ≡ old.lists → IfSome (slice_get old.levels 0) (HasGoneBack old mid) → (length old.levels ≤ 0 → mid ≡ old) →
    HasJoined mid new shorts more clauses r → HasEmptied old new clauses shorts more r
has_emptied old mid new clauses shorts more r g levels lists back same joined =
    let e = emptied old mid (literals_at clauses r) g back same in
    record {
      middle = mid;
      levels = levels;
      first = λ v at. ap (λ (t : TrailState). t.places) (subst (λ o. IfSome o (HasGoneBack old mid)) at back).trail;
      none = λ empty. ap (λ (x : WatchState). x.trail.places) (same (let n = ap length empty in omega (arith, n)));
      vars = e.1;
      lists = lists;
      joined = joined;
    }

-- ---- the clause has come

-- the arena with one more clause, whose literals were exchanged
pub record HasCome (before after : List Held) (r id : ℕ) (lits : Clause) : Type 0 where
  pub others : KeepsOthers before after r
  pub fresh : held_at before r ≡ None
  pub live : is_live after r ≡ true
  pub id_is : id_in after r ≡ id
  pub same : IsPermutation lits (literals_at after r)

pub has_come : (before middle after : List Held) (r id : ℕ) (lits : Clause) → middle ≡ before ++ record { ref = r; id = id; literals = lits } ∷ [] →
    held_at before r ≡ None → held_at middle r ≡ Some (record { ref = r; id = id; literals = lits }) → KeepsOthers middle after r → is_live after r ≡ true →
    option_map (λ (h : Held). h.id) (held_at after r) ≡ option_map (λ (h : Held). h.id) (held_at middle r) →
    IsPermutation (literals_at middle r) (literals_at after r) → HasCome before after r id lits
has_come before middle after r id lits added fresh found others live ids same = record {
  others = others_trans before middle after r (others_added before middle (record { ref = r; id = id; literals = lits }) added) others;
  fresh = fresh;
  live = live;
  id_is = ap (λ o. unwrap_or o 0) (ids ∙ ap (option_map (λ (h : Held). h.id)) found);
  same = subst (λ x. IsPermutation x (literals_at after r)) (ap (λ o. unwrap_or (option_map (λ (x : Held). x.literals) o) []) found) same;
}

implied_taken : (old new : WatchState) (before after : List Held) (database more : Database) (id r : ℕ) (lits : Clause)
    (f : HasImplied old new after database.shorts.items more.shorts.items r) →
    HasCome before after r id lits → more.rows.items ≡ database.rows.items ++ rows_for id r Blocked →
    HasTaken old new before after database more id Blocked lits f.literal
implied_taken old new before after database more id r lits f h rows = record {
  ref = r;
  level = f.level;
  end = f.end;
  middle = f.middle;
  others = h.others;
  fresh = h.fresh;
  live = h.live;
  id_is = h.id_is;
  same = h.same;
  one = f.one;
  at = f.at;
  alone = λ m there. f.alone m (Contains-permutation lits (literals_at after r) m h.same there);
  lowest = λ i v low before_it e.
      let o = f.lowest i v low before_it e in
      record {
        literal = o.literal;
        stands = Contains-permutation (literals_at after r) lits o.literal (IsPermutation-sym lits (literals_at after r) h.same) o.stands;
        other = o.other;
        not_false = o.not_false;
      };
  unit = λ few. absurd (let two = f.two in omega (arith, few, two));
  free = f.free;
  levels = f.levels;
  places = f.places;
  vars = f.vars;
  lists = f.lists;
  joined = f.joined;
  rows = rows;
}

paused_taken : (base : ℕ) (proof other : ProofLog) (old new : WatchState) (before after : List Held) (database more : Database) (id : ℕ) (lits : Clause) (u : Literal) →
    IsPaused base proof old before database → HasTaken old new before after database more id Blocked lits u → Contains lits u →
    IsFalseOn (literals_of old.trail.places) u → entry_of (entries proof) id ≡ None →
    entries other ≡ entries proof ++ record { id = id; origin = Blocked; literals = lits } ∷ [] →
    assumed other ≡ assumed proof → IsPaused base other new after more
paused_taken base proof other old new before after database more id lits u p h u_in lost free grown same =
    let stands : standing other ≡ standing proof ++ lits ∷ [] = stands_grown proof other (record { id = id; origin = Blocked; literals = lits }) grown in
    let b = p.running.begun in
    let places : List LoggedPlace = seen old.trail.places in
    let cut : ℕ = h.end.start in
    let inside = get_within old.levels h.level h.end h.at in
    let one = h.one in
    let (last, at_last) = some_at old.levels (length old.levels - 1) (omega (arith, inside, one)) in
    let k = cut_of base old new before after database more id Blocked lits u last b at_last (omega (arith, inside, one)) h in
    let (at, q, there, is) = place_of (λ (x : LoggedPlace). x.literal) places (negation u)
    (subst (λ ls. Contains ls (negation u)) (sym (literals_seen old.trail.places)) lost) in
    let u_is : u ≡ negation q.literal = sym (negation-negation u) ∙ ap negation (sym is) in
    let late : cut ≤ at = elim (cases_lt at cut) as (λ _. cut ≤ at) [
      | inl early ↦ absurd (h.free.1 (subst (λ ls. Contains ls (negation u)) (literals_seen_take cut old.trail.places)
          (Contains_from_get (logged_literals (take cut places)) at (negation u)
          (get_map (λ (x : LoggedPlace). x.literal) (take cut places) at q (take_get cut places at q early there) ∙ ap Some is))))
      | inr later ↦ later
    ] in
    let within_cut = get_within places cut k.decided.place k.decided.there in
    let low = k.low in
    let learning = learns (standing proof) base cut at (assumed proof) places lits q cut p.sound there late (subst (Contains lits) u_is u_in)
    (subst (λ l. IsCut places base cut l lits cut) u_is
    (record { low = k.low; high = omega arith; decided = k.decided; alone = k.alone; earlier = k.earlier })) in
    let x : LoggedPlace = record { literal = u; implied = true } in
    let sound_u : AreWarranted (standing proof ++ lits ∷ []) base (assumed proof) (take cut places ++ x ∷ []) =
    subst (λ l. AreWarranted (standing proof ++ lits ∷ []) base (assumed proof)
    (take cut places ++ record { literal = l; implied = true } ∷ [])) (sym u_is) learning.sound in
    let after_is = seen_after old new before after database more id Blocked lits u h in
    let count : length (take cut places) ≡ cut = length-take-le cut places (omega (arith, within_cut)) in
    record {
      running = running_after base old new before after database more id Blocked lits u other (entries proof) p.running.holds_entries p.running.reasoned b
          p.running.satisfied p.running.ground u_in free grown h;
      sound = subst (AreWarranted (standing other) base (assumed other)) (sym after_is)
          (subst (λ cs. AreWarranted cs base (assumed other) (take cut places ++ x ∷ [])) (sym stands)
          (subst (λ a. AreWarranted (standing proof ++ lits ∷ []) base a (take cut places ++ x ∷ [])) (sym same) sound_u));
      given = given_after base places (seen new.trail.places) (assumed other)
          (ap (take base) after_is ∙ take-append-le base (take cut places) (x ∷ []) (omega (arith, low, count)) ∙ take-take base cut places low)
          (subst (All (IsTrueOn (logged_literals (take base places)))) (sym same) p.given);
      low =
          let n = length_seen new.trail.places in
          let m = ap length after_is in
          let y = length_push (take cut places) x in
          omega (arith, n, m, y, count, low);
    }

-- a trail without the literals is quiet with the clause wherever it was without it
sound_with_open : (st : List Clause) (base : ℕ) (a : Clause) (places : List LoggedPlace) (lits : Clause) (l m : Literal) → AreWarranted st base a places →
    l ≢ m → Contains lits l → IsOpenOn (logged_literals places) l → Contains lits m → IsOpenOn (logged_literals places) m →
    AreWarranted (st ++ lits ∷ []) base a places
sound_with_open st base a places lits l m s other l_in l_open m_in m_open = sound_clause st lits base a places s (λ k q e none above.
    let within = get_within places k q e in
    let count : length (take k places) ≡ k = length-take-le k places (omega (arith, within)) in
    learnt_clauses_keep_quiet st (logged_literals (take k places)) lits l m ((s.placed k q e).quiet none (omega (arith, above, count))) other
    l_in (earlier k l within l_open) m_in (earlier k m within m_open))
  where
    earlier : (k : ℕ) (x : Literal) → k < length places → IsOpenOn (logged_literals places) x → IsOpenOn (logged_literals (take k places)) x
    earlier k x within o =
        open_earlier (λ (y : LoggedPlace). y.literal) places k (length places) x (omega (arith, within))
        (subst (λ ps. IsOpenOn (logged_literals ps) x) (sym (take_all (length places) places (omega arith))) o)

paused_opened : (base : ℕ) (proof other : ProofLog) (old new : WatchState) (before after : List Held) (database more : Database) (id r : ℕ) (lits : Clause) →
    IsPaused base proof old before database → HasOpened old new after database.shorts.items more.shorts.items r → HasCome before after r id lits →
    more.rows.items ≡ database.rows.items ++ rows_for id r Blocked → entry_of (entries proof) id ≡ None →
    entries other ≡ entries proof ++ record { id = id; origin = Blocked; literals = lits } ∷ [] → assumed other ≡ assumed proof →
    IsPaused base other new after more
paused_opened base proof other old new before after database more id r lits p o h rows free grown same =
    let stands : standing other ≡ standing proof ++ lits ∷ [] = stands_grown proof other (record { id = id; origin = Blocked; literals = lits }) grown in
    let b = p.running.begun in
    let cut : ℕ = o.end.start in
    let front : List Place = take cut old.trail.places in
    let places : new.trail.places ≡ front = ap (λ (t : TrailState). t.places) o.joined.trail ∙ o.places in
    let levels : new.levels ≡ take o.level old.levels = o.joined.levels ∙ o.levels in
    let on = b.on o.level o.end o.one o.at in
    let low = on.0 in
    let within = get_within old.trail.places cut on.1.place on.1.there in
    let begun = begun_cut base o.level old.levels old.trail.places o.end b o.one o.at in
    let satisfied = satisfied_cut database.shorts.items before base o.level old.levels old.trail.places o.end p.running.satisfied b o.one o.at in
    let count : length (take cut (seen old.trail.places)) ≡ cut =
    length-take-le cut (seen old.trail.places) (let n = length_seen old.trail.places in omega (arith, n, within)) in
    let after_is : seen new.trail.places ≡ take cut (seen old.trail.places) =
    ap seen places ∙ sym (take_seen cut old.trail.places) in
    let open_in : (l : Literal) → IsOpenOn (literals_of front) l → IsOpenOn (logged_literals (take cut (seen old.trail.places))) l =
    λ l is. subst (λ ls. IsOpenOn ls l) (sym (literals_seen_take cut old.trail.places)) is in
    let stands_in : (l : Literal) → Contains (literals_at after r) l → Contains lits l =
    λ l there. Contains-permutation (literals_at after r) lits l (IsPermutation-sym lits (literals_at after r) h.same) there in
    let sound : AreWarranted (standing proof ++ lits ∷ []) base (assumed proof) (take cut (seen old.trail.places)) =
    sound_with_open (standing proof) base (assumed proof) (take cut (seen old.trail.places)) lits o.first o.second
    (sound_take (standing proof) base (assumed proof) (seen old.trail.places) cut p.sound) o.other
    (stands_in o.first o.stands_first) (open_in o.first o.open_first) (stands_in o.second o.stands_second) (open_in o.second o.open_second) in
    record {
      running = record {
        holds_entries = subst (HoldsEntries new.lists after more) (sym grown)
            (holds_joined o.middle new before after database more (entries proof) r (record { id = id; origin = Blocked; literals = lits })
            (subst (λ ls. HoldsEntries ls before database (entries proof)) (sym o.lists) p.running.holds_entries) free h.others h.fresh h.live
            h.id_is h.same o.joined rows);
        serves = o.joined.serves;
        begun = subst (λ ls. AreBegun base ls new.trail.places) (sym levels) (subst (AreBegun base (take o.level old.levels)) (sym places) begun);
        satisfied = subst (λ ls. AreSatisfied more.shorts.items after ls new.trail.places) (sym levels)
            (subst (AreSatisfied more.shorts.items after (take o.level old.levels)) (sym places) (record {
              now = λ q there. carried q there (literals_of front) (satisfied.now q (was q there));
              below = λ q v there e. carried q there (literals_of (take v.start front)) (satisfied.below q v (was q there) e);
            }));
        reasoned = subst (IsReasoned after) (sym places)
            (reasoned_kept before after front (λ k q x e is.
            let found = get_take cut old.trail.places k q e in
            h.others.kept x (place_apart before after r x h.others h.fresh (p.running.reasoned.reasoned k q x found.1 is).0))
            (reasoned_take before old.trail.places cut p.running.reasoned));
        ground = λ v e.
            let at : slice_get old.levels 0 ≡ Some v = (get_take o.level old.levels 0 v (subst (λ ls. slice_get ls 0 ≡ Some v) levels e)).1 in
            let f = b.first v at in
            let below : v.start ≤ cut = let x = f.0 in omega (arith, x, low) in
            let same : take v.start new.trail.places ≡ take v.start old.trail.places = ap (take v.start) places ∙
            take-take v.start cut old.trail.places below in
            subst (IsGround (entries other) more.shorts.items after) (sym same)
            (subst (λ es. IsGround es more.shorts.items after (take v.start old.trail.places)) (sym grown)
            (ground_added old.lists before after database more.shorts.items (entries proof) (record { id = id; origin = Blocked; literals = lits }) r
            (take v.start old.trail.places) p.running.holds_entries h.others h.fresh (λ n q less found. o.joined.front n q found) (p.running.ground v at)));
      };
      sound = subst (AreWarranted (standing other) base (assumed other)) (sym after_is)
          (subst (λ cs. AreWarranted cs base (assumed other) (take cut (seen old.trail.places))) (sym stands)
          (subst (λ a. AreWarranted (standing proof ++ lits ∷ []) base a (take cut (seen old.trail.places))) (sym same) sound));
      given = given_after base (seen old.trail.places) (seen new.trail.places) (assumed other)
          (ap (take base) after_is ∙ take-take base cut (seen old.trail.places) low)
          (subst (All (IsTrueOn (logged_literals (take base (seen old.trail.places))))) (sym same) p.given);
      low =
          let n = length_seen new.trail.places in
          let m = ap length after_is in
          omega (arith, n, m, count, low);
    }
  where
    was : (q : ℕ) → Contains more.shorts.items q → Contains database.shorts.items q
    was q there = elim (o.joined.listed q there) [
      | inl old_one ↦ old_one
      | inr here ↦ absurd (let few = here.1 in let two = o.two in omega (arith, few, two))
    ]

    carried : (q : ℕ) → Contains more.shorts.items q → (trail : List Literal) → HasTrue trail (literals_at before q) → HasTrue trail (literals_at after q)
    carried q there trail t =
        subst (HasTrue trail) (sym (ap (λ z. unwrap_or (option_map (λ (x : Held). x.literals) z) [])
        (h.others.kept q (place_apart before after r q h.others h.fresh (All-contains (λ x. is_live before x ≡ true) database.shorts.items q
        p.running.holds_entries.listed (was q there)))))) t

kept_held : (proof : ProofLog) (w : WatchState) (clauses : List Held) (database : Database) → IsKept proof w clauses database →
    HoldsEntries w.lists clauses database (entries proof)
kept_held proof w clauses database (inl r) = r.holds_entries
kept_held proof w clauses database (inr p) = p.1.running.holds_entries

pub kept_serves : (proof : ProofLog) (w : WatchState) (clauses : List Held) (database : Database) → IsKept proof w clauses database → Serves w clauses
kept_serves proof w clauses database (inl r) = r.serves
kept_serves proof w clauses database (inr p) = p.1.running.serves

pub held_emptied : (old new : WatchState) (before after : List Held) (database more : Database) (id r : ℕ) (lits : Clause) →
    HasEmptied old new after database.shorts.items more.shorts.items r → HasCome before after r id lits →
    more.rows.items ≡ database.rows.items ++ rows_for id r Blocked → HasHeld old new before after database more id lits
held_emptied old new before after database more id r lits e h rows = record {
  vars = ap (λ (t : TrailState). t.vars) e.joined.trail ∙ e.vars;
  keeps = λ proof other free grown same k. inl (record {
    holds_entries = subst (HoldsEntries new.lists after more) (sym grown)
        (holds_joined e.middle new before after database more (entries proof) r (record { id = id; origin = Blocked; literals = lits })
        (subst (λ ls. HoldsEntries ls before database (entries proof)) (sym e.lists) (kept_held proof old before database k)) free h.others h.fresh h.live
        h.id_is h.same e.joined rows);
    serves = e.joined.serves;
    ground = subst (IsGround (entries other) more.shorts.items after) (sym (ap (λ (t : TrailState). t.places) e.joined.trail))
        (subst (λ es. IsGround es more.shorts.items after e.middle.trail.places) (sym grown)
        (ground_added old.lists before after database more.shorts.items (entries proof) (record { id = id; origin = Blocked; literals = lits }) r
        e.middle.trail.places (kept_held proof old before database k) h.others h.fresh (λ n q less at. e.joined.front n q at) (stands proof k)));
    levels = e.joined.levels ∙ e.levels;
  });
}
  where
    stands : (proof : ProofLog) → IsKept proof old before database → IsGround (entries proof) database.shorts.items before e.middle.trail.places
    stands proof (inl rest) = subst (IsGround (entries proof) database.shorts.items before) (sym (e.none rest.levels)) rest.ground
    stands proof (inr p) =
        let (v, at) = some_at old.levels 0 (let some = p.1.running.begun.some in omega (arith, some)) in
        subst (IsGround (entries proof) database.shorts.items before) (sym (e.first v at)) (p.1.running.ground v at)

pub held_implied : (old new : WatchState) (before after : List Held) (database more : Database) (id r : ℕ) (lits : Clause) →
    HasImplied old new after database.shorts.items more.shorts.items r → HasCome before after r id lits →
    more.rows.items ≡ database.rows.items ++ rows_for id r Blocked → HasHeld old new before after database more id lits
held_implied old new before after database more id r lits f h rows = record {
  vars = ap (λ (t : TrailState). t.vars) f.joined.trail ∙ f.vars;
  keeps = λ proof other free grown same k. elim k as (λ _. IsKept other new after more) [
    | inl rest ↦ absurd (let inside = get_within old.levels f.level f.end f.at in let none = ap length rest.levels in omega (arith, inside, none))
    | inr p ↦ inr (
      p.0,
      paused_taken p.0 proof other old new before after database more id lits f.literal p.1
          (implied_taken old new before after database more id r lits f h rows)
          (Contains-permutation (literals_at after r) lits f.literal (IsPermutation-sym lits (literals_at after r) h.same)
          (Contains_from_get (literals_at after r) 0 f.literal f.first)) f.lost free grown same,
    )
  ];
}

pub held_opened : (old new : WatchState) (before after : List Held) (database more : Database) (id r : ℕ) (lits : Clause) →
    HasOpened old new after database.shorts.items more.shorts.items r → HasCome before after r id lits →
    more.rows.items ≡ database.rows.items ++ rows_for id r Blocked → HasHeld old new before after database more id lits
held_opened old new before after database more id r lits o h rows = record {
  vars = ap (λ (t : TrailState). t.vars) o.joined.trail ∙ o.vars;
  keeps = λ proof other free grown same k. elim k as (λ _. IsKept other new after more) [
    | inl rest ↦ absurd (let inside = get_within old.levels o.level o.end o.at in let none = ap length rest.levels in omega (arith, inside, none))
    | inr p ↦ inr (p.0, paused_opened p.0 proof other old new before after database more id r lits p.1 o h rows free grown same)
  ];
}

pub held_back : (retreat : Retreat) (old new : WatchState) (before after : List Held) (database more : Database) (id r : ℕ) (lits : Clause) →
    HasGoneFor retreat old new after database.shorts.items more.shorts.items r → HasCome before after r id lits →
    more.rows.items ≡ database.rows.items ++ rows_for id r Blocked → HasHeld old new before after database more id lits
held_back Bottom old new before after database more id r lits g h rows = held_emptied old new before after database more id r lits g h rows
held_back (Implied n) old new before after database more id r lits g h rows = held_implied old new before after database more id r lits g h rows
held_back (Open n) old new before after database more id r lits g h rows = held_opened old new before after database more id r lits g h rows
