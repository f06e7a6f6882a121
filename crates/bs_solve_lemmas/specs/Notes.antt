-- What a step's end takes out.
use Rattle.std.specs.Prelude.{◌≡◌, ℕ, ◌≤◌, Bool, List, [], map, filter, take, length, Some, None, All, Contains, slice_get}
use Rattle.bs_clause.specs.Literal.{Literal}
use Rattle.bs_arena.specs.Arena.{Held, held_at}
use Rattle.bs_solve_lemmas.specs.declared.row.LoggedClause.{LoggedClause}
use Rattle.bs_solve_lemmas.specs.Keeping.{watched_in}

-- the ids, the clauses and the watched literals of these rows
pub record IsNoted (clauses : List Held) (rows : List LoggedClause) (ids refs : List ℕ) (watched : List Literal) : Type 0 where
  pub ids_are : ids ≡ map (λ row. row.id) rows
  pub clauses_are : refs ≡ map (λ row. row.clause) rows
  pub watched_are : watched ≡ watched_in clauses rows

-- the rows that pass a test, none of which stands before this place
pub record GoBy (clauses : List Held) (rows : List LoggedClause) (start : ℕ) (ids refs : List ℕ) (watched : List Literal) : Type 0 where
  pub test : LoggedClause → Bool
  pub noted : IsNoted clauses (filter test rows) ids refs watched
  pub low : start ≤ length rows
  pub none : filter test (take start rows) ≡ []

-- these clauses were taken out, and the others are as they were
pub record HasKilled (old new : List Held) (refs : List ℕ) : Type 0 where
  pub gone : (r : ℕ) → Contains refs r → held_at new r ≡ None
  pub kept : (r : ℕ) → (¬ Contains refs r) → held_at new r ≡ held_at old r

-- none of the first so many references is among those that go
pub record AreOut (refs : List ℕ) (from' : ℕ) (gone : List ℕ) : Type 0 where
  pub low : from' ≤ length refs
  pub out : All (λ r. ¬ Contains gone r) (take from' refs)

-- a list of which the members before a place have been looked at: those that pass stand in front
pub record IsThinned {X : Type 0} (test : X → Bool) (old now : List X) (place kept : ℕ) : Type 0 where
  pub long : length now ≡ length old
  pub few : kept ≤ place
  pub front : take kept now ≡ filter test (take place old)
  pub rest : (k : ℕ) (x : X) → place ≤ k → slice_get old k ≡ Some x → slice_get now k ≡ Some x
