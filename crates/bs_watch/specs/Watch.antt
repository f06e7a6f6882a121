-- What a watch holds, and when it serves an arena.
use Rattle.std.specs.Prelude.{◌≡◌, ◌⊎◌, ◌↔◌, ℕ, ◌+◌, ◌<◌, ◌≤◌, ◌^◌, List, [], ◌∷◌, ◌++◌, Option, map, take, length, Some, slice_get}
use Rattle.bs_clause.specs.Literal.{Literal, Clause}
use Rattle.bs_arena.specs.Arena.{Held}
use Rattle.bs_arena.specs.Renaming.{new_name, IsRenaming}
use Rattle.bs_watch.specs.declared.lists.Watcher.{Watcher}
use Rattle.bs_watch.specs.declared.watch.Level.{Level}
use Rattle.bs_watch.specs.Places.{Place, TrailState, literals_of, with_place, renamed_place}
use Rattle.bs_watch.specs.Lists.{row, IsAttached, renamed_lists}
use Rattle.bs_watch.specs.Scene.{Scene, AreListed, AreGuarded, IsGuarded}

-- the trail, where each level begins, how many places have been looked at, and the watch lists
pub record WatchState : Type 0 where
  pub trail : TrailState
  pub levels : List Level
  pub head : ℕ
  pub lists : List (List Watcher)

-- with the clauses of an arena
abbrev pub scene : WatchState → List Held → Scene
scene w clauses = record { trail = w.trail; lists = w.lists; clauses = clauses }

-- the level of a place is the number of levels that began no later than it was taken
pub record AreLevelled (places : List Place) (levels : List Level) : Type 0 where
  pub few : (k : ℕ) (p : Place) → slice_get places k ≡ Some p → p.level ≤ length levels
  pub above : (j k : ℕ) (v : Level) (p : Place) → slice_get levels j ≡ Some v →
      slice_get places k ≡ Some p → v.start ≤ k → j < p.level
  pub below : (j k : ℕ) (v : Level) (p : Place) → slice_get levels j ≡ Some v →
      slice_get places k ≡ Some p → k < v.start → p.level ≤ j

-- what holds of every watch
pub record IsWatch (w : WatchState) (capacity : ℕ) : Type 0 where
  pub small : w.trail.vars < 2 ^ 30
  pub looked : w.head ≤ length w.trail.places
  pub begun : (k : ℕ) (v : Level) → slice_get w.levels k ≡ Some v →
      (v.start ≤ length w.trail.places) × (v.looked ≤ v.start)
  pub ascends : (i j : ℕ) (u v : Level) → i < j → slice_get w.levels i ≡ Some u →
      slice_get w.levels j ≡ Some v → u.start ≤ v.start
  pub few : length w.levels ≤ w.trail.vars + 1
  pub levelled : AreLevelled w.trail.places w.levels
  pub room : w.trail.vars + 1 ≤ capacity

-- The attached clauses stand in the arena, each in the lists of its first two literals, and what
-- has been looked at is guarded, now and as each level began.
pub record Serves (w : WatchState) (clauses : List Held) : Type 0 where
  pub listed : AreListed (scene w clauses)
  pub guarded : AreGuarded w.lists clauses w.trail.places w.head
  pub levels : (k : ℕ) (v : Level) → slice_get w.levels k ≡ Some v →
      AreGuarded w.lists clauses (take v.start w.trail.places) v.looked

-- any arena
pub record ServesAll (w : WatchState) : Type 0 where
  pub serves : (clauses : List Held) → Serves w clauses

pub record HasNone (w : WatchState) : Type 0 where
  pub none : (r : ℕ) → ¬ IsAttached w.lists r

-- it serves each arena that was served before
pub record KeepsService (old new : WatchState) : Type 0 where
  pub keeps : (clauses : List Held) → Serves old clauses → Serves new clauses

-- ---- what calls do

-- with one more variable
abbrev pub grown : WatchState → WatchState
grown w = record {
  trail = record { vars = w.trail.vars + 1; places = w.trail.places };
  levels = w.levels;
  head = w.head;
  lists = w.lists ++ [] ∷ [] ∷ [];
}

-- with one more level
abbrev pub decided : WatchState → WatchState
decided w = record w {
  levels = w.levels ++ record { start = length w.trail.places; looked = w.head } ∷ [];
}

-- with one more literal on the last level
abbrev pub assigned : WatchState → Literal → Option ℕ → WatchState
assigned w l reason = record w { trail = with_place w.trail l reason (length w.levels) }

-- with so many places looked at
abbrev pub with_head : WatchState → ℕ → WatchState
with_head w head = record w { head = head }

-- with the new reference of each clause
abbrev pub renamed_watch : List (ℕ × ℕ) → WatchState → WatchState
renamed_watch names w = record {
  trail = record { vars = w.trail.vars; places = map (renamed_place names) w.trail.places };
  levels = w.levels;
  head = w.head;
  lists = renamed_lists names w.lists;
}

-- as it was when the level began
pub record HasGoneBack (old new : WatchState) (begun : Level) : Type 0 where
  pub trail : new.trail ≡ record old.trail { places = take begun.start old.trail.places }
  pub head : new.head ≡ begun.looked

-- the clause is guarded now and as each level began, so that it can be attached
pub record MayAttach (w : WatchState) (c : Clause) : Type 0 where
  pub guarded : IsGuarded (literals_of w.trail.places) (literals_of (take w.head w.trail.places)) c
  pub levels : (k : ℕ) (v : Level) → slice_get w.levels k ≡ Some v →
      IsGuarded (literals_of (take v.start w.trail.places))
      (literals_of (take v.looked (take v.start w.trail.places))) c

-- the clause is attached, and nothing else has changed
pub record HasAttached (old new : WatchState) (clauses : List Held) (r : ℕ) : Type 0 where
  pub serves : Serves new clauses
  pub attached : (q : ℕ) → IsAttached new.lists q ↔ (IsAttached old.lists q ⊎ (q ≡ r))
  pub trail : new.trail ≡ old.trail
  pub levels : new.levels ≡ old.levels
  pub head : new.head ≡ old.head

-- ---- compaction

-- each watcher's clause has its new reference, and nothing else has changed
pub record IsRenamed (names : List (ℕ × ℕ)) (old new : WatchState) : Type 0 where
  pub vars : new.trail.vars ≡ old.trail.vars
  pub literals : literals_of new.trail.places ≡ literals_of old.trail.places
  pub levels : new.levels ≡ old.levels
  pub head : new.head ≡ old.head
  pub rows : length new.lists ≡ length old.lists
  pub on : (l : Literal) (k : ℕ) (v : Watcher) → slice_get (row old.lists l) k ≡ Some v →
      (x : Watcher) × (slice_get (row new.lists l) k ≡ Some x) ×
      (new_name names v.clause ≡ Some x.clause)
  pub back : (l : Literal) (k : ℕ) (x : Watcher) → slice_get (row new.lists l) k ≡ Some x →
      (v : Watcher) × (slice_get (row old.lists l) k ≡ Some v) ×
      (new_name names v.clause ≡ Some x.clause) × (v.blocker ≡ x.blocker)

-- after a compaction that gave these names, it serves what it served before
pub record ServesRenamed (old new : WatchState) (names : List (ℕ × ℕ)) : Type 0 where
  pub serves : (clauses after : List Held) → Serves old clauses →
      IsRenaming clauses after names → Serves new after
