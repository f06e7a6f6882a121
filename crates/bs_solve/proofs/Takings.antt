-- A learnt clause is taken in.
use Rattle.std.proofs.Common.{◌≡◌, ◌≢◌, ℕ, ◌≤◌, true, List, [], ◌∷◌, ◌++◌, length, take, sym, ap, subst, ◌∙◌, inl, inr, Some, None}
use Rattle.std.specs.Prelude.{slice_get, is_some, option_map, unwrap_or, IfSome, IsPermutation}
use Rattle.std.proofs.lemmas.Bool.{cases_lt, false≢true}
use Rattle.std.proofs.lemmas.List.Elements.{All-contains}
use Rattle.bs_clause.specs.Literal.{Literal, Clause, negation}
use Rattle.bs_clause.specs.Range.{IsWithin}
use Rattle.bs_arena.specs.Arena.{Held, held_at, literals_at, Keeps, KeepsOthers}
use Rattle.bs_watch.specs.declared.watch.Level.{Level}
use Rattle.bs_watch.specs.Places.{TrailState, AreApart, IsUnassigned}
use Rattle.bs_watch.specs.Scene.{IsWatchable}
use Rattle.bs_watch.specs.Watch.{WatchState, Serves, AreLevelled, HasGoneBack, assigned}
use Rattle.bs_watch.proofs.Gets.{same_some, Contains_from_get}
use Rattle.bs_watch.proofs.CallerLemmas.{serves_kept, attached_is_live}
use Rattle.bs_log.specs.declared.origin.Origin.TheVariants.{Learnt}
use Rattle.bs_solve.specs.declared.database.Database.{Database}
use Rattle.bs_solve.specs.Database.{is_live, HasJoined, rows_for}
use Rattle.bs_solve.specs.Backjump.{IsBackLevel, IsLearntClause, HasTaken, JumpsBack}
use Rattle.bs_solve.proofs.Databases.{others_added, others_trans}
use Rattle.bs_solve.proofs.Backs.{Back, back_short, back_long}

-- how far the trail goes back
pub goes_back : (base : ℕ) (w : WatchState) (lits c : Clause) (n : ℕ) (s : IsLearntClause base w lits) → AreLevelled w.trail.places w.levels →
    AreApart w.trail.places →
    IsPermutation lits c → IsBackLevel w.trail.places c n → (2 ≤ length c → IsWatchable w.trail.vars c) →
    (v : Level) × Back w lits c (negation s.point.place.literal) n v
goes_back base w lits c n s a apart same b can = elim (cases_lt (length c) 2) [
  | inl few ↦ back_short base w lits c n s a apart same b few
  | inr two ↦ back_long base w lits c n s a apart same b (can two)
]

pub gone_back : (old new : WatchState) (n : ℕ) (v : Level) → slice_get old.levels n ≡ Some v → IfSome (slice_get old.levels n) (HasGoneBack old new) →
    HasGoneBack old new v
gone_back old new n v at back = subst (λ o. IfSome o (HasGoneBack old new)) at back

-- the first literal is open then
pub first_open_back : (base : ℕ) (old new : WatchState) (lits c : Clause) (n : ℕ) (v : Level) (l : Literal) (s : IsLearntClause base old lits) →
    Back old lits c (negation s.point.place.literal) n v → IfSome (slice_get old.levels n) (HasGoneBack old new) → slice_get c 0 ≡ Some l →
    IsUnassigned new.trail l
first_open_back base old new lits c n v l s b back at =
    let u : Literal = negation s.point.place.literal in
    let h = gone_back old new n v b.at back in
    let is : l ≡ u = same_some l u (sym at ∙ b.first) in
    subst (λ t. IsUnassigned t l) (sym h.trail)
    (subst (IsUnassigned (record { vars = old.trail.vars; places = take v.start old.trail.places })) (sym is) (record {
      in_range = (All-contains (IsWithin old.trail.vars) lits u s.range (Contains_from_get lits 0 u s.point.first)).1;
      unassigned = b.open_u;
    }))

-- the arena with one more clause, whose literals were exchanged
pub serves_with_one : (w : WatchState) (before middle after : List Held) (r : ℕ) → Serves w before → Keeps before middle → held_at before r ≡ None →
    KeepsOthers middle after r → Serves w after
serves_with_one w before middle after r s keeps fresh others = serves_kept w before after s (λ q a.
    let live = attached_is_live w before s q a in
    let other : q ≢ r = λ e. false≢true (ap is_some (sym fresh ∙ ap (held_at before) (sym e)) ∙ live) in
    others.kept q other ∙ keeps.kept q live)

pub levels_assigned : (old mid new : WatchState) (n r : ℕ) (l : Literal) → mid.levels ≡ take n old.levels → new ≡ assigned mid l (Some r) →
    new.levels ≡ take n old.levels
levels_assigned old mid new n r l levels is = ap (λ (x : WatchState). x.levels) is ∙ levels

pub places_assigned : (base : ℕ) (old mid new : WatchState) (lits c : Clause) (n r : ℕ) (v : Level) (l : Literal) (s : IsLearntClause base old lits) →
    Back old lits c (negation s.point.place.literal) n v → IfSome (slice_get old.levels n) (HasGoneBack old mid) → slice_get c 0 ≡ Some l →
    mid.levels ≡ take n old.levels → new ≡ assigned mid l (Some r) →
    new.trail.places ≡ take v.start old.trail.places ++
    record { literal = negation s.point.place.literal; reason = Some r; level = length (take n old.levels) } ∷ []
places_assigned base old mid new lits c n r v l s b back at levels is =
    let h = gone_back old mid n v b.at back in
    let u : Literal = negation s.point.place.literal in
    let is_u : l ≡ u = same_some l u (sym at ∙ b.first) in
    ap (λ (x : WatchState). x.trail.places) is ∙
    ap (λ ps. ps ++ record { literal = l; reason = Some r; level = length mid.levels } ∷ []) (ap (λ (t : TrailState). t.places) h.trail) ∙
    ap (λ m. take v.start old.trail.places ++ record { literal = m; reason = Some r; level = length mid.levels } ∷ []) is_u ∙
    ap (λ k. take v.start old.trail.places ++ record { literal = u; reason = Some r; level = length k } ∷ []) levels

pub jumps_back : (base : ℕ) (old mid assigned_w new : WatchState) (before middle after : List Held) (database more : Database) (id r n : ℕ) (v : Level)
    (lits : Clause) (l : Literal)
    (s : IsLearntClause base old lits) → Back old lits (literals_at after r) (negation s.point.place.literal) n v →
    middle ≡ before ++ record { ref = r; id = id; literals = lits } ∷ [] → held_at before r ≡ None →
    held_at middle r ≡ Some (record { ref = r; id = id; literals = lits }) →
    KeepsOthers middle after r → is_live after r ≡ true →
    option_map (λ (h : Held). h.id) (held_at after r) ≡ option_map (λ (h : Held). h.id) (held_at middle r) →
    IsPermutation lits (literals_at after r) →
    mid.levels ≡ take n old.levels → mid.lists ≡ old.lists → IfSome (slice_get old.levels n) (HasGoneBack old mid) →
    slice_get (literals_at after r) 0 ≡ Some l →
    assigned_w ≡ assigned mid l (Some r) → HasJoined assigned_w new database.shorts.items more.shorts.items after r →
    more.rows.items ≡ database.rows.items ++ rows_for id r Learnt → JumpsBack old new before after database more id lits
jumps_back base old mid assigned_w new before middle after database more id r n v lits l s b added fresh found others live ids same levels lists back
    at is joined rows = record {
      taken = λ u first.
          let is_u : u ≡ negation s.point.place.literal = same_some u (negation s.point.place.literal) (sym first ∙ s.point.first) in
          subst (HasTaken old new before after database more id Learnt lits) (sym is_u) (record {
            ref = r;
            level = n;
            end = v;
            middle = assigned_w;
            others = others_trans before middle after r (others_added before middle (record { ref = r; id = id; literals = lits }) added) others;
            fresh = fresh;
            live = live;
            id_is = ap (λ o. unwrap_or o 0) (ids ∙ ap (option_map (λ (h : Held). h.id)) found);
            same = same;
            one = b.one;
            at = b.at;
            alone = b.alone;
            unit = b.unit;
            free = b.open_u;
            lowest = b.lowest;
            levels = levels_assigned old mid assigned_w n r l levels is;
            places = places_assigned base old mid assigned_w lits (literals_at after r) n r v l s b back at levels is;
            vars = ap (λ (x : WatchState). x.trail.vars) is ∙ ap (λ (t : TrailState). t.vars) (gone_back old mid n v b.at back).trail;
            lists = ap (λ (x : WatchState). x.lists) is ∙ lists;
            joined = joined;
            rows = rows;
          });
    }
