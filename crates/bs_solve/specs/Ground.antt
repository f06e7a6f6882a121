-- What stands on the trail for good: the negations of retired activation literals.
use Rattle.std.specs.Prelude.{◌≡◌, ℕ, List, [], ◌∷◌, ◌++◌, Some, None, All, slice_get}
use Rattle.bs_clause.specs.Literal.{Clause}
use Rattle.bs_log.specs.declared.origin.Origin.TheVariants.{Retired}
use Rattle.bs_log.specs.History.{Problem, Entry}
use Rattle.bs_log.specs.Refusal.{entry_of}
use Rattle.bs_clause.specs.Range.{HasVariables}
use Rattle.bs_arena.specs.Arena.{Held, literals_at}
use Rattle.bs_watch.specs.Trail.{IsOpenOn}
use Rattle.bs_watch.specs.Places.{Place, literals_of}
use Rattle.bs_watch.specs.declared.lists.Watcher.{Watcher}
use Rattle.bs_solve.specs.declared.database.Database.{Database}
use Rattle.bs_solve.specs.Database.{id_in, HoldsEntries}

-- the unit of a retired activation literal, which is the short clause of this number, implied the literal at the place
pub record IsUnitAt (es : List Entry) (shorts : List ℕ) (clauses : List Held) (k : ℕ) (p : Place) : Type 0 where
  pub ref : ℕ
  pub entry : Entry
  pub at : slice_get shorts k ≡ Some ref
  pub reason : p.reason ≡ Some ref
  pub sole : literals_at clauses ref ≡ p.literal ∷ []
  pub found : entry_of es (id_in clauses ref) ≡ Some entry
  pub retired : entry.origin ≡ Retired

-- so were all places
pub record IsGround (es : List Entry) (shorts : List ℕ) (clauses : List Held) (places : List Place) : Type 0 where
  pub each : (k : ℕ) (p : Place) → slice_get places k ≡ Some p → IsUnitAt es shorts clauses k p

-- no literal of the clause has a variable that stands there
abbrev pub IsOff : List Place → Clause → Type 0
IsOff places c = All (IsOpenOn (literals_of places)) c

-- the clauses that a log is about are over its own variables
abbrev pub IsOwn : Problem → Type 0
IsOwn p = All (HasVariables p.vars) p.clauses

-- one more clause has come, wherever the old ones stood
pub record HasAdded (old_lists new_lists : List (List Watcher)) (old new : List Held) (old_database new_database : Database) (e : Entry) : Type 0 where
  pub more : (es : List Entry) → entry_of es e.id ≡ None → HoldsEntries old_lists old old_database es → HoldsEntries new_lists new new_database (es ++ e ∷ [])
  pub ground : (es : List Entry) → entry_of es e.id ≡ None → HoldsEntries old_lists old old_database es → (places : List Place) →
      IsGround es old_database.shorts.items old places → IsGround (es ++ e ∷ []) new_database.shorts.items new places
