-- What visits do to the trail, the watch lists and the clauses.
use Rattle.std.specs.Prelude.{◌≡◌, ◌⊎◌, ◌↔◌, ℕ, ◌+◌, ◌*◌, ◌<◌, ◌≤◌, true, List, map, take, length, Some, is_some, Contains}
use Rattle.std.specs.Prelude.{IsPermutation, slice_get}
use Rattle.bs_clause.specs.Literal.{Literal, Clause}
use Rattle.bs_clause.specs.Range.{HasVariables}
use Rattle.bs_arena.specs.Arena.{Content, Held, held_at, literals_at}
use Rattle.bs_watch.specs.declared.lists.Watcher.{Watcher}
use Rattle.bs_watch.specs.declared.visit.Visit.{Visit}
use Rattle.bs_watch.specs.declared.visit.Visit.TheVariants.{Stays, Moves, Conflict as Clash}
use Rattle.bs_watch.specs.declared.visit.Outcome.{Outcome}
use Rattle.bs_watch.specs.declared.visit.Outcome.TheVariants.{Quiet, Conflict}
use Rattle.bs_watch.specs.Trail.{IsFalseOn, IsConflict, IsUnit, Implies}
use Rattle.bs_watch.specs.Places.{Place, literals_of, TrailState}
use Rattle.bs_watch.specs.Lists.{row, IsIn, IsAttached, IsOnce}
use Rattle.bs_watch.specs.Look.{IsFirstTwo, HasTrue}

-- the trail, the watch lists and the live clauses
pub record Scene : Type 0 where
  pub trail : TrailState
  pub lists : List (List Watcher)
  pub clauses : List Held

-- a trail and watch lists over an arena
abbrev pub scene_in : TrailState → List (List Watcher) → Content → Scene
scene_in trail lists arena = record { trail = trail; lists = lists; clauses = arena.clauses }

abbrev pub trues : Scene → List Literal
trues s = literals_of s.trail.places

-- the clause can be watched: it has two literals or more, of distinct variables among 1 to vars
pub record IsWatchable (vars : ℕ) (c : Clause) : Type 0 where
  pub long : 2 ≤ length c
  pub apart : (i j : ℕ) (l m : Literal) → slice_get c i ≡ Some l → slice_get c j ≡ Some m →
      l.variable ≡ m.variable → i ≡ j
  pub range : HasVariables vars c

-- a watcher in the list of a literal: its clause is live and watches that literal, and the
-- blocker stands in it
pub record IsWatcher (vars : ℕ) (clauses : List Held) (l : Literal) (w : Watcher) : Type 0 where
  pub live : is_some (held_at clauses w.clause) ≡ true
  pub watchable : IsWatchable vars (literals_at clauses w.clause)
  pub watched : IsFirstTwo (literals_at clauses w.clause) l
  pub blocker : Contains (literals_at clauses w.clause) w.blocker

-- each attached clause is in just the lists of its first two literals, once in each
pub record AreListed (s : Scene) : Type 0 where
  pub rows : length s.lists ≡ 2 * s.trail.vars + 2
  pub listed : (l : Literal) (k : ℕ) (w : Watcher) → slice_get (row s.lists l) k ≡ Some w →
      IsWatcher s.trail.vars s.clauses l w
  pub both : (l m : Literal) (r : ℕ) → IsIn (row s.lists l) r →
      IsFirstTwo (literals_at s.clauses r) m → IsIn (row s.lists m) r
  pub once : (l : Literal) → IsOnce (row s.lists l)

-- the words of an arena, what it has room for, and the references that it has given are the same
pub record KeepsRoom (old new : Content) : Type 0 where
  pub places : new.places ≡ old.places
  pub words : new.words ≡ old.words
  pub spare : new.spare ≡ old.spare

-- ---- from one scene to a later one

abbrev pub name_of : Held → ℕ × ℕ
name_of h = (h.ref, h.id)

-- the same clauses, each with its literals in any order
pub record AreShuffled (old new : List Held) : Type 0 where
  pub names : map name_of new ≡ map name_of old
  pub live : (r : ℕ) → is_some (held_at new r) ≡ is_some (held_at old r)
  pub same : (r : ℕ) → IsPermutation (literals_at old r) (literals_at new r)

-- a literal that is watched now was watched before, or was not false
abbrev pub Rewatches : List Literal → Clause → Clause → Type 0
Rewatches trail old new =
    (m : Literal) → IsFirstTwo new m → IsFirstTwo old m ⊎ (¬ IsFalseOn trail m)

-- a live clause implies the literal
pub record IsImplied (clauses : List Held) (earlier : List Place) (p : Place) : Type 0 where
  pub by : ℕ
  pub reason : p.reason ≡ Some by
  pub live : is_some (held_at clauses by) ≡ true
  pub implies : Implies (literals_of earlier) (literals_at clauses by) p.literal

-- the new trail begins with the old one, and each further literal is implied
pub record Grows (clauses : List Held) (level : ℕ) (old new : List Place) : Type 0 where
  pub longer : length old ≤ length new
  pub front : take (length old) new ≡ old
  pub implied : (k : ℕ) (p : Place) → length old ≤ k → slice_get new k ≡ Some p →
      IsImplied clauses (take k new) p
  pub levels : (k : ℕ) (p : Place) → length old ≤ k → slice_get new k ≡ Some p → p.level ≡ level

-- what visits keep
pub record Advances (level : ℕ) (old new : Scene) : Type 0 where
  pub vars : new.trail.vars ≡ old.trail.vars
  pub listed : AreListed new
  pub attached : (r : ℕ) → IsAttached new.lists r ↔ IsAttached old.lists r
  pub shuffled : AreShuffled old.clauses new.clauses
  pub rewatches : (r : ℕ) →
      Rewatches (trues old) (literals_at old.clauses r) (literals_at new.clauses r)
  pub grows : Grows new.clauses level old.trail.places new.trail.places

-- the clauses of a literal's list before a place have a true literal
pub record AreMet (s : Scene) (falsified : Literal) (at : ℕ) : Type 0 where
  pub met : (k : ℕ) (w : Watcher) → k < at → slice_get (row s.lists falsified) k ≡ Some w →
      HasTrue (trues s) (literals_at s.clauses w.clause)

-- this attached clause is false
pub record IsConflictOf (s : Scene) (r : ℕ) : Type 0 where
  pub attached : IsAttached s.lists r
  pub live : is_some (held_at s.clauses r) ≡ true
  pub lost : IsConflict (trues s) (literals_at s.clauses r)

-- what a visit at a place of the list comes to
abbrev pub Visited : Scene → Scene → Literal → ℕ → Visit → Type 0
Visited old new falsified at Stays =
    AreMet new falsified (at + 1) ×
    (length (row new.lists falsified) ≡ length (row old.lists falsified))
Visited old new falsified at Moves =
    AreMet new falsified at ×
    (length (row new.lists falsified) + 1 ≡ length (row old.lists falsified))
Visited old new falsified at (Clash r) = IsConflictOf new r

abbrev pub AllVisited : Scene → Literal → Outcome → Type 0
AllVisited new falsified Quiet = AreMet new falsified (length (row new.lists falsified))
AllVisited new falsified (Conflict r) = IsConflictOf new r

-- ---- what holds between visits

-- where a watched literal was false when it was looked at, one of the clause's literals is true
abbrev pub IsGuarded : List Literal → List Literal → Clause → Type 0
IsGuarded trail looked c = (m : Literal) → IsFirstTwo c m → IsFalseOn looked m → HasTrue trail c

-- so many places of the trail have been looked at, for each attached clause
pub record AreGuarded (lists : List (List Watcher)) (clauses : List Held) (places : List Place)
    (looked : ℕ) : Type 0 where
  pub guarded : (r : ℕ) → IsAttached lists r →
      IsGuarded (literals_of places) (literals_of (take looked places)) (literals_at clauses r)

-- no attached clause is false or unit
pub record AreSettled (s : Scene) : Type 0 where
  pub no_conflict : (r : ℕ) → IsAttached s.lists r → ¬ IsConflict (trues s) (literals_at s.clauses r)
  pub no_unit : (r : ℕ) → IsAttached s.lists r → ¬ IsUnit (trues s) (literals_at s.clauses r)

abbrev pub Propagated : Scene → Outcome → Type 0
Propagated s Quiet = AreSettled s
Propagated s (Conflict r) = IsConflictOf s r
