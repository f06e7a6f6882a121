-- A watch whose references are renamed serves the compacted arena.
use Rattle.std.proofs.Common.{◌≡◌, ℕ, zero, suc, ◌+◌, ◌*◌, ◌<◌, ◌≤◌, List, [], ◌∷◌, map, length, take, refl, sym, ap, subst, ◌∙◌, Some, None, Option, true}
use Rattle.std.specs.Prelude.{slice_get, is_some, Contains, option_map, unwrap_or}
use Rattle.bs_clause.specs.Literal.{Literal, Clause}
use Rattle.bs_arena.specs.Arena.{Held, held_at, literals_at, meaning}
use Rattle.bs_arena.specs.Renaming.{new_name, IsRenaming}
use Rattle.bs_arena.proofs.Lookups.{renamed_is_live}
use Rattle.bs_watch.specs.declared.lists.Watcher.{Watcher}
use Rattle.bs_watch.specs.Places.{Place, literals_of}
use Rattle.bs_watch.specs.Look.{IsFirstTwo}
use Rattle.bs_watch.specs.Lists.{row, IsIn, IsAttached}
use Rattle.bs_watch.specs.Scene.{IsWatchable, AreGuarded, IsGuarded}
use Rattle.bs_watch.specs.Watch.{WatchState, Serves, IsRenamed}
use Rattle.std.proofs.Common.{get_or}
use Rattle.std.proofs.lemmas.Bool.{false≢true}
use Rattle.std.proofs.lemmas.List.{length-map}
use Rattle.bs_clause.specs.Literal.{code_of}
use Rattle.bs_watch.specs.Lists.{renamed}
use Rattle.bs_watch.specs.Places.{renamed_place}
use Rattle.bs_watch.specs.Watch.{ServesRenamed}
use Rattle.bs_watch.proofs.Gets.{same_some, get_map, get_map_cases}

literals_from : Option (ℕ × List Literal) → List Literal
literals_from o = unwrap_or (option_map (λ (m : ℕ × List Literal). m.1) o) []

by_meaning : (o : Option Held) →
    unwrap_or (option_map (λ (h : Held). h.literals) o) [] ≡ unwrap_or (option_map (λ (m : ℕ × List Literal). m.1) (option_map meaning o)) []
by_meaning None = refl
by_meaning (Some h) = refl

-- a clause has the same literals under its new name
pub same_literals : (old new : List Held) (names : List (ℕ × ℕ)) (r s : ℕ) → IsRenaming old new names → new_name names r ≡ Some s →
    literals_at new s ≡ literals_at old r
same_literals old new names r s renames is =
    by_meaning (held_at new s) ∙ ap (λ o. unwrap_or (option_map (λ (m : ℕ × List Literal). m.1) o) []) (renames.same r s is) ∙ sym (by_meaning (held_at old r))

front_literals : (n : ℕ) (places : List Place) → literals_of (take n places) ≡ take n (literals_of places)
front_literals zero places = refl
front_literals (suc n) [] = refl
front_literals (suc n) (p ∷ places) = ap (λ ls. p.literal ∷ ls) (front_literals n places)

same_fronts : (n : ℕ) (old new : List Place) → literals_of new ≡ literals_of old → literals_of (take n new) ≡ literals_of (take n old)
same_fronts n old new is = front_literals n new ∙ ap (take n) is ∙ sym (front_literals n old)

-- a clause in a list now has its old name in the list before
pub record OldName (names : List (ℕ × ℕ)) (ws : List Watcher) (s : ℕ) : Type 0 where
  pub old : ℕ
  pub stood : IsIn ws old
  pub named : new_name names old ≡ Some s

old_name : (names : List (ℕ × ℕ)) (old new : WatchState) → IsRenamed names old new → (l : Literal) (s : ℕ) → IsIn (row new.lists l) s →
    OldName names (row old.lists l) s
old_name names old new n l s i =
    let (v, there, named, _) = n.back l i.at i.watcher i.there in
    record { old = v.clause; stood = record { at = i.at; watcher = v; there = there; same = refl }; named = named ∙ ap Some i.same }

new_in : (names : List (ℕ × ℕ)) (old new : WatchState) → IsRenamed names old new → (l : Literal) (r s : ℕ) → new_name names r ≡ Some s →
    IsIn (row old.lists l) r → IsIn (row new.lists l) s
new_in names old new n l r s is i =
    let (x, there, named) = n.on l i.at i.watcher i.there in
    record { at = i.at; watcher = x; there = there; same = same_some x.clause s (sym named ∙ ap (new_name names) i.same ∙ is) }

pub renamed_serves : (w new : WatchState) (clauses after : List Held) (names : List (ℕ × ℕ)) → Serves w clauses → IsRenaming clauses after names →
    IsRenamed names w new → Serves new after
renamed_serves w new clauses after names s renames n = record {
  listed = record {
    rows = n.rows ∙ s.listed.rows ∙ ap (λ v. 2 * v + 2) (sym n.vars);
    listed = λ l k x e.
        let (v, there, named, blocker) = n.back l k x e in
        let was = s.listed.listed l k v there in
        let same : literals_at after x.clause ≡ literals_at clauses v.clause = same_literals clauses after names v.clause x.clause renames named in
        record {
          live = renamed_is_live clauses after names v.clause x.clause renames named;
          watchable = subst (λ vars. IsWatchable vars (literals_at after x.clause)) (sym n.vars) (subst (IsWatchable w.trail.vars) (sym same) was.watchable);
          watched = subst (λ c. IsFirstTwo c l) (sym same) was.watched;
          blocker = subst (Contains (literals_at after x.clause)) blocker (subst (λ c. Contains c v.blocker) (sym same) was.blocker);
        };
    both = λ l m q i first.
        let o = old_name names w new n l q i in
        new_in names w new n m o.old q o.named
        (s.listed.both l m o.old o.stood (subst (λ c. IsFirstTwo c m) (same_literals clauses after names o.old q renames o.named) first));
    once = λ l. record {
      once = λ i j x y a b same.
          let (u, there_i, named_i, _) = n.back l i x a in
          let (v, there_j, named_j, _) = n.back l j y b in
          (s.listed.once l).once i j u v there_i there_j (renames.apart u.clause v.clause x.clause named_i (named_j ∙ ap Some (sym same)));
    };
  };
  guarded = subst (AreGuarded new.lists after new.trail.places) (sym n.head) (guards w.trail.places new.trail.places w.head n.literals s.guarded);
  levels =
      λ k v e. guards (take v.start w.trail.places) (take v.start new.trail.places) v.looked (same_fronts v.start w.trail.places new.trail.places n.literals)
      (s.levels k v (ap (λ vs. slice_get vs k) (sym n.levels) ∙ e));
}
  where
    guards : (old_places new_places : List Place) (looked : ℕ) → literals_of new_places ≡ literals_of old_places →
        AreGuarded w.lists clauses old_places looked → AreGuarded new.lists after new_places looked
    guards old_places new_places looked is g = record {
      guarded = λ q a.
          let o = old_name names w new n a.0 q a.1 in
          subst (IsGuarded (literals_of new_places) (literals_of (take looked new_places))) (sym (same_literals clauses after names o.old q renames o.named))
          (subst (λ ls. IsGuarded ls (literals_of (take looked new_places)) (literals_at clauses o.old)) (sym is)
          (subst (λ ls. IsGuarded (literals_of old_places) ls (literals_at clauses o.old)) (sym (same_fronts looked old_places new_places is))
          (g.guarded o.old (a.0, o.stood))));
    }

-- ---- from the lists that are mapped

literals_mapped : (names : List (ℕ × ℕ)) (places : List Place) → literals_of (map (renamed_place names) places) ≡ literals_of places
literals_mapped names [] = refl
literals_mapped names (p ∷ places) = ap (λ ls. p.literal ∷ ls) (literals_mapped names places)

row_mapped : (names : List (ℕ × ℕ)) (lists : List (List Watcher)) (l : Literal) →
    row (map (λ ws. map (renamed names) ws) lists) l ≡ map (renamed names) (row lists l)
row_mapped names lists l = by_place lists (code_of l)
  where
    by_place : (ls : List (List Watcher)) (i : ℕ) → get_or (map (λ ws. map (renamed names) ws) ls) i [] ≡ map (renamed names) (get_or ls i [])
    by_place [] i = refl
    by_place (ws ∷ ls) zero = refl
    by_place (ws ∷ ls) (suc i) = by_place ls i

named : (o : Option ℕ) (d : ℕ) → is_some o ≡ true → o ≡ Some (unwrap_or o d)
named None d e = absurd (false≢true e)
named (Some s) d e = refl

pub serves_renamed : (w : WatchState) (names : List (ℕ × ℕ)) →
    ServesRenamed w (record {
      trail = record {
        vars = w.trail.vars;
        places = map
            (renamed_place names) w.trail.places;
      };
      levels = w.levels;
      head = w.head;
      lists = map (λ ws. map (renamed names) ws) w.lists;
    }) names
serves_renamed w names = record {
  serves = λ clauses after s renames.
      let new : WatchState =
      record {
        trail = record { vars = w.trail.vars; places = map (renamed_place names) w.trail.places };
        levels = w.levels;
        head = w.head;
        lists =
            map (λ ws. map (renamed names) ws) w.lists;
      } in
      let has_name : (l : Literal) (k : ℕ) (v : Watcher) → slice_get (row w.lists l) k ≡ Some v →
      new_name names v.clause ≡ Some (unwrap_or (new_name names v.clause) v.clause) =
      λ l k v e. named (new_name names v.clause) v.clause (renames.named v.clause ∙ (s.listed.listed l k v e).live) in
      renamed_serves w new clauses after names s renames (record {
        vars = refl;
        literals = literals_mapped names w.trail.places;
        levels = refl;
        head = refl;
        rows = length-map w.lists (λ ws. map (renamed names) ws);
        on =
            λ l k v e. (
              renamed names v,
              ap (λ ws. slice_get ws k) (row_mapped names w.lists l)
                  ∙ get_map (renamed names) (row w.lists l) k v e,
              has_name l k v e,
            );
        back = λ l k x e.
            let (v, there, is) = get_map_cases (renamed names) (row w.lists l) k x (ap (λ ws. slice_get ws k) (sym (row_mapped names w.lists l)) ∙ e) in
            (v, there, has_name l k v there ∙ ap (λ (y : Watcher). Some y.clause) is, ap (λ (y : Watcher). y.blocker) is);
      });
}

pub renames_by : (w u : WatchState) (names : List (ℕ × ℕ)) →
    u ≡ record {
      trail = record {
        vars = w.trail.vars;
        places = map
            (renamed_place names) w.trail.places;
      };
      levels = w.levels;
      head = w.head;
      lists = map (λ ws. map (renamed names) ws) w.lists;
    } → ServesRenamed w u names
renames_by w u names is = subst (λ x. ServesRenamed w x names) (sym is) (serves_renamed w names)
