-- Watchers of killed clauses leave the lists, and the watch serves the arena again.
use Rattle.std.proofs.Common.{◌≡◌, ◌≢◌, ◌↔◌, ℕ, suc, zero, ◌+◌, ◌*◌, ◌<◌, ◌≤◌, true, false, Bool, List, [], ◌∷◌, length, take, swap_remove, set, refl}
use Rattle.std.proofs.Common.{sym, ap, subst, ◌∙◌, inl, inr, ◌⊎◌, Some, arith}
use Rattle.std.specs.Prelude.{slice_get, is_some, Contains, option_map, unwrap_or}
use Rattle.std.proofs.lemmas.Bool.{cases_Bool, cases_eq, cases_lt, false≢true}
use Rattle.std.proofs.lemmas.List.{length-set}
use Rattle.bs_clause.specs.Literal.{Literal, Clause, code_of}
use Rattle.bs_arena.specs.Arena.{Held, Content, held_at, literals_at}
use Rattle.bs_watch.specs.declared.lists.Watcher.{Watcher}
use Rattle.bs_watch.specs.Places.{Place, TrailState, literals_of}
use Rattle.bs_watch.specs.Look.{IsFirstTwo}
use Rattle.bs_watch.specs.Lists.{row, IsIn, IsAttached, IsOnce}
use Rattle.bs_watch.specs.Scene.{IsWatchable, AreGuarded, IsGuarded}
use Rattle.bs_watch.specs.Watch.{WatchState, Serves}
use Rattle.bs_watch.specs.Sweep.{ArePlaced, Thins, AreLiveTo, AllLive, AreLiveIn, HasServed, HasSwept}
use Rattle.bs_watch.proofs.Gets.{get_within, get_from_Contains, same_some, none_is_not_some}
use Rattle.bs_watch.proofs.Literals.{cases_literal}
use Rattle.bs_watch.proofs.Rows.{row_now, row_other}
use Rattle.bs_watch.proofs.Removals.{removed_keeps, removed_front}
use Rattle.bs_watch.proofs.Moves.{Left, left_from, once_removed}

-- ---- watchers leave one by one

pub thins_refl : (clauses : List Held) (lists : List (List Watcher)) → Thins clauses lists lists
thins_refl clauses lists = record { rows = refl; came = λ l k v e. (k, e); stays = λ l k v e live. (k, e); once = λ l o. o }

pub thins_trans : (clauses : List Held) (a b c : List (List Watcher)) → Thins clauses a b → Thins clauses b c → Thins clauses a c
thins_trans clauses a b c s t = record {
  rows = t.rows ∙ s.rows;
  came = λ l k v e. let (n, there) = t.came l k v e in s.came l n v there;
  stays = λ l k v e live. let (n, there) = s.stays l k v e live in t.stays l n v there live;
  once = λ l o. t.once l (s.once l o);
}

pub placed_thin : (clauses : List Held) (places : List ℕ) (old new : List (List Watcher)) → Thins clauses old new → ArePlaced old places → ArePlaced new places
placed_thin clauses places old new t p = record {
  each =
      λ r a. let (n, there) =
      t.came a.0 a.1.at a.1.watcher a.1.there in p.each r (a.0, record { at = n; watcher = a.1.watcher; there = there; same = a.1.same });
}

pub live_thin : (clauses : List Held) (old new : List (List Watcher)) (l : Literal) → Thins clauses old new → AllLive clauses old l → AllLive clauses new l
live_thin clauses old new l t a = record { each = λ k v e. let (n, there) = t.came l k v e in a.each n v there }

-- a watcher of a dead clause is taken out
pub removed_thin : (clauses : List Held) (lists new : List (List Watcher)) (f : Literal) (at : ℕ) (w d : Watcher) → code_of f < length lists →
    slice_get (row lists f) at ≡ Some w →
    is_some (held_at clauses w.clause) ≡ false → new ≡ set lists (code_of f) (swap_remove (row lists f) at d) → Thins clauses lists new
removed_thin clauses lists new f at w d within there dead is =
    let here : row new f ≡ swap_remove (row lists f) at d = ap (λ ls. row ls f) is ∙ row_now lists f (swap_remove (row lists f) at d) within in
    let other : (m : Literal) → m ≢ f → row new m ≡ row lists m = λ m ne. ap (λ ls. row ls m) is ∙ row_other lists f m (swap_remove (row lists f) at d) ne in
    let inside : at < length (row lists f) = get_within (row lists f) at w there in
    record {
      rows = ap length is ∙ length-set lists (code_of f) (swap_remove (row lists f) at d);
      came = λ l k v e. elim (cases_literal l f) [
        | inl same ↦
            let left : Left (row lists f) at v =
            left_from (row lists f) at k d v inside (ap (λ ws. slice_get ws k) (sym here) ∙ ap (λ x. slice_get (row new x) k) (sym same) ∙ e) in
            (left.from', ap (λ x. slice_get (row lists x) left.from') same ∙ left.there)
        | inr ne ↦ (k, ap (λ ws. slice_get ws k) (sym (other l ne)) ∙ e)
      ];
      stays = λ l k v e live. elim (cases_literal l f) [
        | inl same ↦
            let at_f : slice_get (row lists f) k ≡ Some v = ap (λ x. slice_get (row lists x) k) (sym same) ∙ e in
            let elsewhere : k ≢ at = λ eq.
            let one : v ≡ w = same_some v w (sym at_f ∙ ap (slice_get (row lists f)) eq ∙ there) in
            false≢true (sym dead ∙ ap (λ (x : Watcher). is_some (held_at clauses x.clause)) (sym one) ∙ live) in
            let (n, kept) = removed_keeps (row lists f) at k d v inside elsewhere at_f in
            (n, ap (λ x. slice_get (row new x) n) same ∙ ap (λ ws. slice_get ws n) here ∙ kept)
        | inr ne ↦ (k, ap (λ ws. slice_get ws k) (other l ne) ∙ e)
      ];
      once = λ l o. elim (cases_literal l f) [
        | inl same ↦ subst IsOnce (sym (ap (row new) same ∙ here)) (once_removed (row lists f) at d inside (subst (λ x. IsOnce (row lists x)) same o))
        | inr ne ↦ subst IsOnce (sym (other l ne)) o
      ];
    }

-- those before the place stay there
pub removed_live : (clauses : List Held) (lists new : List (List Watcher)) (f : Literal) (at : ℕ) (d : Watcher) → code_of f < length lists →
    at < length (row lists f) →
    new ≡ set lists (code_of f) (swap_remove (row lists f) at d) → AreLiveTo clauses lists f at → AreLiveTo clauses new f at
removed_live clauses lists new f at d within inside is a =
    let here : row new f ≡ swap_remove (row lists f) at d = ap (λ ls. row ls f) is ∙ row_now lists f (swap_remove (row lists f) at d) within in
    record { each = λ k v before e. a.each k v before (removed_front (row lists f) at k d v inside before (ap (λ ws. slice_get ws k) (sym here) ∙ e)) }

pub live_more : (clauses : List Held) (lists : List (List Watcher)) (f : Literal) (at : ℕ) (w : Watcher) → slice_get (row lists f) at ≡ Some w →
    is_some (held_at clauses w.clause) ≡ true →
    AreLiveTo clauses lists f at → AreLiveTo clauses lists f (at + 1)
live_more clauses lists f at w there live a = record {
  each = λ k v before e. elim (cases_lt k at) [
    | inl early ↦ a.each k v early e
    | inr late ↦
        let same : k ≡ at = omega (arith, before, late) in
        subst (λ (x : Watcher). is_some (held_at clauses x.clause) ≡ true) (same_some w v (sym there ∙ ap (slice_get (row lists f)) (sym same) ∙ e)) live
  ];
}

-- one more list has been swept
pub live_in_more : (clauses : List Held) (old new : List (List Watcher)) (ls : List Literal) (at : ℕ) (l : Literal) → slice_get ls at ≡ Some l →
    Thins clauses old new → AllLive clauses new l →
    AreLiveIn clauses old ls at → AreLiveIn clauses new ls (at + 1)
live_in_more clauses old new ls at l there t all a = record {
  each = λ i m before e. elim (cases_lt i at) [
    | inl early ↦ live_thin clauses old new m t (a.each i m early e)
    | inr late ↦
        let same : i ≡ at = omega (arith, before, late) in
        subst (AllLive clauses new) (same_some l m (sym there ∙ ap (slice_get ls) (sym same) ∙ e)) all
  ];
}

-- ---- the watch after its lists have been swept

pub swept : (w new : WatchState) (arena : Content) (ls : List Literal) → HasServed w arena ls → Thins arena.clauses w.lists new.lists →
    AreLiveIn arena.clauses new.lists ls (length ls) →
    new.trail ≡ w.trail → new.levels ≡ w.levels → new.head ≡ w.head → HasSwept w new arena.clauses
swept w new arena ls h t a trail levels head =
    let live : (l : Literal) (k : ℕ) (v : Watcher) → slice_get (row new.lists l) k ≡ Some v → is_some (held_at arena.clauses v.clause) ≡ true = λ l k v e.
    elim (cases_Bool (is_some (held_at arena.clauses v.clause))) as (λ _. is_some (held_at arena.clauses v.clause) ≡ true) [
      | inl lives ↦ lives
      | inr dead ↦
          let (n, was) = t.came l k v e in
          let (i, there) = get_from_Contains ls l (h.watched l n v was dead) in
          (a.each i l (get_within ls i l there) there).each k v e
    ] in
    let same : (r : ℕ) → is_some (held_at arena.clauses r) ≡ true → literals_at arena.clauses r ≡ literals_at h.before r =
    λ r alive. ap (λ o. unwrap_or (option_map (λ (x : Held). x.literals) o) []) (h.kept r alive) in
    let back : (l : Literal) (r : ℕ) → IsIn (row new.lists l) r → IsIn (row w.lists l) r =
    λ l r i. let (n, was) = t.came l i.at i.watcher i.there in record { at = n; watcher = i.watcher; there = was; same = i.same } in
    let alive : (l : Literal) (r : ℕ) → IsIn (row new.lists l) r → is_some (held_at arena.clauses r) ≡ true =
    λ l r i. subst (λ q. is_some (held_at arena.clauses q) ≡ true) i.same (live l i.at i.watcher i.there) in
    let on : (l : Literal) (r : ℕ) → IsIn (row w.lists l) r → is_some (held_at arena.clauses r) ≡ true → IsIn (row new.lists l) r = λ l r i lives.
    let (n, there) =
    t.stays l i.at i.watcher i.there
    (subst (λ q. is_some (held_at arena.clauses q) ≡ true) (sym i.same) lives) in record { at = n; watcher = i.watcher; there = there; same = i.same } in
    let guards : (places : List Place) (looked : ℕ) → AreGuarded w.lists h.before places looked → AreGuarded new.lists arena.clauses places looked =
    λ places looked g. record {
      guarded = λ r attached.
          subst (IsGuarded (literals_of places) (literals_of (take looked places))) (sym (same r (alive attached.0 r attached.1)))
          (g.guarded r (attached.0, back attached.0 r attached.1));
    } in
    record {
      serves = record {
        listed = record {
          rows = t.rows ∙ h.serves.listed.rows ∙ ap (λ (x : TrailState). 2 * x.vars + 2) (sym trail);
          listed = λ l k v e.
              let (n, was) = t.came l k v e in
              let old = h.serves.listed.listed l n v was in
              let lives = live l k v e in
              let eq : literals_at h.before v.clause ≡ literals_at arena.clauses v.clause = sym (same v.clause lives) in
              record {
                live = lives;
                watchable =
                    subst (λ (x : TrailState). IsWatchable x.vars (literals_at arena.clauses v.clause)) (sym trail)
                    (subst (IsWatchable w.trail.vars) eq old.watchable);
                watched = subst (λ c. IsFirstTwo c l) eq old.watched;
                blocker = subst (λ c. Contains c v.blocker) eq old.blocker;
              };
          both = λ l m r i first.
              let lives = alive l r i in
              on m r (h.serves.listed.both l m r (back l r i) (subst (λ c. IsFirstTwo c m) (same r lives) first)) lives;
          once = λ l. t.once l (h.serves.listed.once l);
        };
        guarded =
            subst (λ (x : TrailState). AreGuarded new.lists arena.clauses x.places new.head) (sym trail)
            (subst (AreGuarded new.lists arena.clauses w.trail.places) (sym head) (guards w.trail.places w.head h.serves.guarded));
        levels = λ k v e.
            subst (λ (x : TrailState). AreGuarded new.lists arena.clauses (take v.start x.places) v.looked) (sym trail)
            (guards (take v.start w.trail.places) v.looked (h.serves.levels k v (ap (λ vs. slice_get vs k) (sym levels) ∙ e)));
      };
      attached = λ r. (
        λ attached. ((attached.0, back attached.0 r attached.1), alive attached.0 r attached.1),
        λ both. (both.0.0, on both.0.0 r both.0.1 both.1),
      );
      trail = trail;
      levels = levels;
      head = head;
    }
