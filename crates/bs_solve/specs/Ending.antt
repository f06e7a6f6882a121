-- The end of a step.
use Rattle.std.specs.Prelude.{◌≡◌, ℕ, ◌≤◌, List, [], ◌∷◌, ◌++◌, map, length, count_by, All}
use Rattle.bs_clause.specs.Literal.{Literal, negation}
use Rattle.bs_clause.specs.Range.{HasVariables}
use Rattle.bs_log.specs.declared.origin.Origin.TheVariants.{Retired}
use Rattle.bs_log.specs.History.{Entry}
use Rattle.bs_arena.specs.Arena.{Held}
use Rattle.bs_watch.specs.Watch.{WatchState, Serves}
use Rattle.bs_solve_lemmas.specs.declared.selection.Leaving.{Leaving}
use Rattle.bs_solve_lemmas.specs.Keeping.{Ascends}
use Rattle.bs_solve_lemmas.specs.Notes.{GoBy}
use Rattle.bs_solve_lemmas.specs.Rows.{going}
use Rattle.bs_solve_lemmas.specs.ProofLog.{ProofLog, next_id}
use Rattle.bs_solve.specs.declared.database.Database.{Database}
use Rattle.bs_solve.specs.Database.{entries, HoldsEntries}
use Rattle.bs_solve.specs.Ground.{IsGround}
use Rattle.bs_solve.specs.declared.dropping.CountedRows.{CountedRows}
use Rattle.bs_solve.specs.Dropping.{without_ids, marked, is_free_long, AreKnownIn, AreStaying}

-- the unit of a negated activation literal
abbrev pub unit_of : ProofLog → Literal → Entry
unit_of b activation = record { id = next_id b; origin = Retired; literals = negation activation ∷ [] }

-- the unit stands, and what is not kept is noted
pub record HasPrepared (b : ProofLog) (steps : ℕ) (old new : WatchState) (clauses : List Held) (database : Database) (spare : ℕ) (activation : Literal)
    (leaving : Leaving) : Type 0 where
  pub holds_entries : HoldsEntries new.lists clauses database (entries b ++ unit_of b activation ∷ [])
  pub serves : Serves new clauses
  pub vars : new.trail.vars ≡ old.trail.vars
  pub ground : IsGround (entries b ++ unit_of b activation ∷ []) database.shorts.items clauses new.trail.places
  pub staying : AreStaying clauses database.shorts.items new.trail.places leaving.ids
  pub levels : new.levels ≡ old.levels
  pub ids : leaving.ids ≡ map (λ e. e.id) (going b.problem steps (entries b ++ unit_of b activation ∷ []))
  pub gone : GoBy clauses database.rows.items leaving.start leaving.ids leaving.clauses.items leaving.watched.items
  pub ascends : Ascends database.rows.items
  pub room : length clauses ≤ spare

-- a clause database of some entries, of which this is known
abbrev pub IsSomeSettling : ℕ → ℕ → CountedRows → WatchState → List Held → Database → Type 0
IsSomeSettling own steps known w clauses database =
    (es : List Entry) × HoldsEntries w.lists clauses database es × AreKnownIn own steps (marked es) known.rows known.long ×
    All (HasVariables w.trail.vars) (map (λ e. e.literals) es)

-- the clauses of these ids are gone, whatever the entries were
pub record HasSettled (own steps : ℕ) (old new : WatchState) (before after : List Held) (database less : Database) (ids : List ℕ) (known : CountedRows) : Type 0 where
  pub serves : Serves new after
  pub vars : new.trail.vars ≡ old.trail.vars
  pub ground : (es : List Entry) → HoldsEntries old.lists before database es → IsGround es database.shorts.items before old.trail.places →
      IsGround (without_ids ids es) less.shorts.items after new.trail.places
  pub levels : new.levels ≡ old.levels
  pub holds_entries : (es : List Entry) → HoldsEntries old.lists before database es → HoldsEntries new.lists after less (without_ids ids es)
  pub rows : (es : List Entry) → HoldsEntries old.lists before database es → known.rows ≡ length (marked (without_ids ids es))
  pub long : (es : List Entry) → HoldsEntries old.lists before database es → known.long ≡ count_by (is_free_long own steps) (marked (without_ids ids es))
