-- The states that a step's blocks exclude.
use Rattle.std.specs.Prelude.{◌≡◌, ◌≢◌, ℕ, ◌<◌, Bool, false, List, [], ◌∷◌, ◌++◌, length, map, slice_index_or}
use Rattle.bs_clause.specs.Literal.{Literal, Clause, negation}
use Rattle.bs_encode.specs.Encoded.{Encoded}
use Rattle.bs_encode.specs.Assuming.{block_for}
use Rattle.bs_report.specs.Valid.{has_clause}

-- the block of a state in a step: the negated activation literal, and the state is another one
abbrev pub blocking : Encoded → Literal → List Bool → Clause
blocking e activation s = negation activation ∷ block_for e s

-- the clause is the block of this state
pub record Blocks (e : Encoded) (activation : Literal) (clause : Clause) (s : List Bool) : Type 0 where
  pub width : length s ≡ length e.states
  pub is : clause ≡ blocking e activation s

-- the clause is no state's block
pub record BlocksNone (e : Encoded) (activation : Literal) (clause : Clause) : Type 0 where
  pub none : (s : List Bool) → length s ≡ length e.states → clause ≢ blocking e activation s

-- a place of a list of states
pub record IsAt (states : List (List Bool)) (s : List Bool) (j : ℕ) : Type 0 where
  pub below : j < length states
  pub is : slice_index_or states j [] ≡ s

-- for each of the states whether its block is among the blocks
pub record AreNoted (e : Encoded) (activation : Literal) (states : List (List Bool)) (blocks : List Clause) (noted : List Bool) : Type 0 where
  pub each : length noted ≡ length states
  pub right : (j : ℕ) → j < length states → slice_index_or noted j false ≡ has_clause blocks (blocking e activation (slice_index_or states j []))

-- the clause is the block of the state at this place
pub record IsDueAt (e : Encoded) (activation : Literal) (states : List (List Bool)) (clause : Clause) (j : ℕ) : Type 0 where
  pub below : j < length states
  pub is : clause ≡ blocking e activation (slice_index_or states j [])

-- the clause is no block of these states
pub record IsNotDue (e : Encoded) (activation : Literal) (states : List (List Bool)) (clause : Clause) : Type 0 where
  pub none : has_clause (map (blocking e activation) states) clause ≡ false

-- with more blocks than before
pub record NotesMore (e : Encoded) (activation : Literal) (states : List (List Bool)) (more : List Clause) (old new : List Bool) : Type 0 where
  pub is : (blocks : List Clause) → AreNoted e activation states blocks old → AreNoted e activation states (blocks ++ more) new
