-- What conflict analysis asks of a trail and of the clauses of an arena.
use Rattle.std.specs.Prelude.{◌≡◌, ℕ, ◌-◌, ◌<◌, ◌≤◌, true, All, List, map, take, length, Some, is_some, option_map, unwrap_or, slice_get, IsPermutation}
use Rattle.bs_clause.specs.Literal.{Literal, Clause}
use Rattle.bs_arena.specs.Arena.{Held, held_at, literals_at}
use Rattle.bs_watch.specs.declared.watch.Level.{Level}
use Rattle.bs_watch.specs.Places.{Place, literals_of}
use Rattle.bs_watch.specs.Trail.{IsFalseOn, IsConflict, Implies}

-- the literals of the live clauses
abbrev pub live_clauses : List Held → List Clause
live_clauses clauses = map (λ h. h.literals) clauses

-- the clause that a place names is live and implied the literal there, over the places before
pub record IsReasoned (clauses : List Held) (places : List Place) : Type 0 where
  pub reasoned : (k : ℕ) (p : Place) (r : ℕ) → slice_get places k ≡ Some p → p.reason ≡ Some r →
      (is_some (held_at clauses r) ≡ true) × Implies (literals_of (take k places)) (literals_at clauses r) p.literal

-- this live clause is false
pub record IsConflictAt (clauses : List Held) (trail : List Literal) (r : ℕ) : Type 0 where
  pub live : is_some (held_at clauses r) ≡ true
  pub lost : IsConflict trail (literals_at clauses r)

-- where the last level begins
abbrev pub last_start : List Level → ℕ
last_start levels = unwrap_or (option_map (λ v. v.start) (slice_get levels (length levels - 1))) 0

-- each live clause as it is written elsewhere, its literals in any order
pub record Spells (clauses : List Held) (said : ℕ → Clause) : Type 0 where
  pub same : (r : ℕ) → is_some (held_at clauses r) ≡ true → IsPermutation (literals_at clauses r) (said r)

-- no literal of the clause is false there
abbrev pub IsSpared : List Place → Clause → Type 0
IsSpared places c = All (λ l. ¬ IsFalseOn (literals_of places) l) c

-- below the first level no literal of a live clause is false
pub record AreSpared (clauses : List Held) (levels : List Level) (places : List Place) : Type 0 where
  pub some : 1 ≤ length levels
  pub each : (v : Level) → slice_get levels 0 ≡ Some v → All (IsSpared (take v.start places)) (live_clauses clauses)

-- the place is below the first level
pub record IsBelowLevels (levels : List Level) (at : ℕ) : Type 0 where
  pub below : (v : Level) → slice_get levels 0 ≡ Some v → at < v.start
