-- Watchers of killed clauses.
use Rattle.std.specs.Prelude.{◌≡◌, ◌↔◌, ℕ, ◌<◌, true, false, List, Some, length, is_some, Contains, slice_get}
use Rattle.bs_clause.specs.Literal.{Literal}
use Rattle.bs_arena.specs.Arena.{Held, Content, held_at}
use Rattle.bs_watch.specs.declared.lists.Watcher.{Watcher}
use Rattle.bs_watch.specs.Lists.{row, IsAttached, IsOnce}
use Rattle.bs_watch.specs.Watch.{WatchState, Serves}

-- each attached clause has a place in the arena, live or dead
pub record ArePlaced (lists : List (List Watcher)) (places : List ℕ) : Type 0 where
  pub each : (r : ℕ) → IsAttached lists r → Contains places r

-- watchers have left the lists, and none of a live clause
pub record Thins (clauses : List Held) (old new : List (List Watcher)) : Type 0 where
  pub rows : length new ≡ length old
  pub came : (l : Literal) (k : ℕ) (v : Watcher) → slice_get (row new l) k ≡ Some v →
      (n : ℕ) × (slice_get (row old l) n ≡ Some v)
  pub stays : (l : Literal) (k : ℕ) (v : Watcher) → slice_get (row old l) k ≡ Some v →
      is_some (held_at clauses v.clause) ≡ true → (n : ℕ) × (slice_get (row new l) n ≡ Some v)
  pub once : (l : Literal) → IsOnce (row old l) → IsOnce (row new l)

-- the watchers of a literal before a place are of live clauses
pub record AreLiveTo (clauses : List Held) (lists : List (List Watcher)) (l : Literal) (past : ℕ)
    : Type 0 where
  pub each : (k : ℕ) (v : Watcher) → k < past → slice_get (row lists l) k ≡ Some v →
      is_some (held_at clauses v.clause) ≡ true

-- and all of them
pub record AllLive (clauses : List Held) (lists : List (List Watcher)) (l : Literal) : Type 0 where
  pub each : (k : ℕ) (v : Watcher) → slice_get (row lists l) k ≡ Some v →
      is_some (held_at clauses v.clause) ≡ true

-- and those of the first so many of some literals
pub record AreLiveIn (clauses : List Held) (lists : List (List Watcher)) (ls : List Literal)
    (past : ℕ) : Type 0 where
  pub each : (i : ℕ) (l : Literal) → i < past → slice_get ls i ≡ Some l → AllLive clauses lists l

-- Clauses were killed since the watch served the arena: those that live are as they were, and the
-- others are watched by these literals alone.
pub record HasServed (w : WatchState) (arena : Content) (ls : List Literal) : Type 0 where
  pub before : List Held
  pub serves : Serves w before
  pub kept : (r : ℕ) → is_some (held_at arena.clauses r) ≡ true →
      held_at arena.clauses r ≡ held_at before r
  pub placed : ArePlaced w.lists arena.places
  pub watched : (l : Literal) (k : ℕ) (v : Watcher) → slice_get (row w.lists l) k ≡ Some v →
      is_some (held_at arena.clauses v.clause) ≡ false → Contains ls l

-- the killed clauses are no longer attached, and nothing else has changed
pub record HasSwept (old new : WatchState) (clauses : List Held) : Type 0 where
  pub serves : Serves new clauses
  pub attached : (r : ℕ) → IsAttached new.lists r ↔
      (IsAttached old.lists r × (is_some (held_at clauses r) ≡ true))
  pub trail : new.trail ≡ old.trail
  pub levels : new.levels ≡ old.levels
  pub head : new.head ≡ old.head
