-- The unit of a retired activation literal comes, and its literal stands for good.
use Rattle.std.specs.Prelude.{◌≡◌, ◌⊎◌, ℕ, ◌<◌, List, [], ◌∷◌, ◌++◌, Some, None, Contains, slice_get}
use Rattle.bs_clause.specs.Literal.{Literal}
use Rattle.bs_log.specs.declared.origin.Origin.TheVariants.{Retired}
use Rattle.bs_log.specs.History.{Entry}
use Rattle.bs_log.specs.Refusal.{entry_of}
use Rattle.bs_arena.specs.Arena.{Held}
use Rattle.bs_watch.specs.Watch.{WatchState, Serves}
use Rattle.bs_solve.specs.declared.database.Database.{Database}
use Rattle.bs_solve.specs.Database.{HoldsEntries}
use Rattle.bs_solve.specs.Ground.{IsGround}

-- one more element, in this place
pub record IsPut (old new : List ℕ) (at r : ℕ) : Type 0 where
  pub here : slice_get new at ≡ Some r
  pub front : (k q : ℕ) → k < at → slice_get old k ≡ Some q → slice_get new k ≡ Some q
  pub stay : (q : ℕ) → Contains old q → Contains new q
  pub only : (q : ℕ) → Contains new q → Contains old q ⊎ (q ≡ r)

-- the unit stands, and its literal does
pub record HasRetired (old new : WatchState) (before after : List Held) (database more : Database) (id : ℕ) (unit : Literal) : Type 0 where
  pub serves : Serves new after
  pub vars : new.trail.vars ≡ old.trail.vars
  pub levels : new.levels ≡ old.levels
  pub rows : more.rows.items ≡ database.rows.items
  pub holds_entries : (es : List Entry) → entry_of es id ≡ None → HoldsEntries old.lists before database es →
      HoldsEntries new.lists after more (es ++ record { id = id; origin = Retired; literals = unit ∷ [] } ∷ [])
  pub ground : (es : List Entry) → entry_of es id ≡ None → HoldsEntries old.lists before database es →
      IsGround es database.shorts.items before old.trail.places →
      IsGround (es ++ record { id = id; origin = Retired; literals = unit ∷ [] } ∷ []) more.shorts.items after new.trail.places
