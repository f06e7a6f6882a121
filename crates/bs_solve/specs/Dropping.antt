-- What a step's end takes out, and what is known of the lemmas that stay.
use Rattle.std.specs.Prelude.{◌≡◌, ℕ, ◌<◌, ◌≤◌, ◌==◌, not, ◌&&◌, Bool, true, false, List, take, length, Some, is_some, count_by, All, slice_get}
use Rattle.std.specs.List.{filter, list_any}
use Rattle.bs_log.specs.History.{Entry}
use Rattle.bs_log.specs.Refusal.{is_lemma_or_block}
use Rattle.bs_log.specs.Kept.{is_free_lemma, is_long}
use Rattle.bs_arena.specs.Arena.{Held, held_at}
use Rattle.bs_watch.specs.Places.{Place}
use Rattle.bs_watch.specs.Watch.{WatchState, Serves}
use Rattle.bs_solve_lemmas.specs.Keeping.{over}
use Rattle.bs_solve.specs.declared.database.Database.{Database}
use Rattle.bs_solve.specs.Database.{id_in, HoldsEntries}
use Rattle.bs_solve.specs.Ground.{IsGround}

-- the entries without those of some ids
abbrev pub without_ids : List ℕ → List Entry → List Entry
without_ids ids es = filter (λ e. not (list_any (λ d. e.id == d) ids)) es

-- the lemmas and the blocks
abbrev pub marked : List Entry → List Entry
marked es = filter is_lemma_or_block es

-- what stands on the trail for good is of clauses that stay
pub record AreStaying (clauses : List Held) (shorts : List ℕ) (places : List Place) (ids : List ℕ) : Type 0 where
  pub low : length places ≤ length shorts
  pub each : (k r : ℕ) → k < length places → slice_get shorts k ≡ Some r →
      (is_some (held_at clauses r) ≡ true) × (list_any (λ d. id_in clauses r == d) ids ≡ false)

-- the clauses of these ids are gone, and none of the first so many lemmas and blocks
pub record HasDropped (old new : WatchState) (before after : List Held) (database less : Database) (start : ℕ) (ids : List ℕ) : Type 0 where
  pub serves : Serves new after
  pub vars : new.trail.vars ≡ old.trail.vars
  pub ground : (es : List Entry) → HoldsEntries old.lists before database es → IsGround es database.shorts.items before old.trail.places →
      IsGround (without_ids ids es) less.shorts.items after new.trail.places
  pub levels : new.levels ≡ old.levels
  pub holds_entries : (es : List Entry) → HoldsEntries old.lists before database es → HoldsEntries new.lists after less (without_ids ids es)
  pub front : (es : List Entry) → HoldsEntries old.lists before database es → take start (marked (without_ids ids es)) ≡ take start (marked es)
  pub low : start ≤ length less.rows.items
  pub live : (r : ℕ) → is_some (held_at after r) ≡ true → is_some (held_at before r) ≡ true

-- the clauses are where they are, or have moved
pub record HasCompacted (old new : WatchState) (before after : List Held) (database moved : Database) : Type 0 where
  pub serves : Serves new after
  pub vars : new.trail.vars ≡ old.trail.vars
  pub ground : (es : List Entry) → HoldsEntries old.lists before database es → IsGround es database.shorts.items before old.trail.places →
      IsGround es moved.shorts.items after new.trail.places
  pub levels : new.levels ≡ old.levels
  pub holds_entries : (es : List Entry) → HoldsEntries old.lists before database es → HoldsEntries new.lists after moved es

-- a lemma without an activation literal of so many steps above the first `own` variables, and a long one
abbrev pub is_free : ℕ → ℕ → Entry → Bool
is_free own steps e = is_free_lemma (over own) steps e

abbrev pub is_free_long : ℕ → ℕ → Entry → Bool
is_free_long own steps e = is_free own steps e && is_long e

-- the first so many of the entries are lemmas without an activation literal, and so many of these are long
pub record AreKnownIn (own steps : ℕ) (es : List Entry) (n long : ℕ) : Type 0 where
  pub low : n ≤ length es
  pub free : All (λ e. is_free own steps e ≡ true) (take n es)
  pub counted : long ≡ count_by (is_free_long own steps) (take n es)
