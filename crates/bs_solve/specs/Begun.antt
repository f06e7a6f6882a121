-- The levels of a search, and its short clauses.
use Rattle.std.specs.Prelude.{◌≡◌, ℕ, ◌+◌, ◌<◌, ◌≤◌, List, take, length, Some, None, Contains, slice_get}
use Rattle.bs_arena.specs.Arena.{Held, literals_at}
use Rattle.bs_watch.specs.declared.watch.Level.{Level}
use Rattle.bs_watch.specs.Places.{Place, literals_of}
use Rattle.bs_watch.specs.Look.{HasTrue}
use Rattle.bs_solve_lemmas.specs.ImplicationPoint.{IsDecisionAt}

-- The first level is that of the assumptions, behind what stands for good, and each further one begins with a decision. No other place from `base` on is
-- without a reason.
pub record AreBegun (base : ℕ) (levels : List Level) (places : List Place) : Type 0 where
  pub some : 1 ≤ length levels
  pub first : (v : Level) → slice_get levels 0 ≡ Some v → (v.start ≤ base) × (v.start ≤ length places)
  pub on : (j : ℕ) (v : Level) → 1 ≤ j → slice_get levels j ≡ Some v → (base ≤ v.start) × IsDecisionAt places v.start
  pub only : (k : ℕ) (p : Place) → base ≤ k → slice_get places k ≡ Some p → p.reason ≡ None →
      (j : ℕ) × (v : Level) × (1 ≤ j) × (slice_get levels j ≡ Some v) × (v.start ≡ k)
  pub ascends : (i j : ℕ) (u v : Level) → 1 ≤ i → i < j → slice_get levels i ≡ Some u → slice_get levels j ≡ Some v → u.start < v.start
  pub deep : (j : ℕ) (v : Level) → slice_get levels j ≡ Some v → j ≤ v.start + 1
  pub few : length levels ≤ length places + 1

-- each short clause has a true literal, on the first level where there are others
pub record AreSatisfied (shorts : List ℕ) (clauses : List Held) (levels : List Level) (places : List Place) : Type 0 where
  pub now : (r : ℕ) → Contains shorts r → HasTrue (literals_of places) (literals_at clauses r)
  pub below : (r : ℕ) (v : Level) → Contains shorts r → slice_get levels 1 ≡ Some v →
      HasTrue (literals_of (take v.start places)) (literals_at clauses r)
