-- How clauses stand in a list of words, one after another.
use Rattle.std.specs.Prelude.{ℕ, zero, suc, ◌+◌, ◌*◌, ◌^◌, ◌/◌, ◌%◌, ◌==◌, ◌≡◌, Bool, cond, List, [], ◌∷◌, ◌++◌, length, take, drop, slice_index}

-- a clause as it is stored: dead ones keep their words
pub record Stored : Type 0 where
  pub id : ℕ
  pub live : Bool
  pub codes : List ℕ

-- four words of header, and the codes of the literals
abbrev pub spelling : Stored → List ℕ
spelling c = c.id % 2 ^ 32 ∷ c.id / 2 ^ 32 ∷ length c.codes ∷ cond c.live 1 0 ∷ c.codes

abbrev pub spelling_of : List Stored → List ℕ
spelling_of [] = []
spelling_of (c ∷ cs) = spelling c ++ spelling_of cs

-- with the place of its first word
pub record PlacedClause : Type 0 where
  pub place : ℕ
  pub clause : Stored

abbrev pub size : Stored → ℕ
size c = length c.codes + 4

abbrev pub placed_from : ℕ → List Stored → List PlacedClause
placed_from at [] = []
placed_from at (c ∷ cs) = record { place = at; clause = c } ∷ placed_from (at + size c) cs

-- the clauses that the words spell, after some words that are skipped
abbrev pub clauses_in : ℕ → ℕ → List ℕ → List PlacedClause
clauses_in at skip [] = []
clauses_in at (suc skip) (w ∷ ws) = clauses_in (at + 1) skip ws
clauses_in at zero (w ∷ ws) =
    record {
      place = at;
      clause = record {
        id = w + 2 ^ 32 * slice_index ws 0;
        live = slice_index ws 2 == 1;
        codes = take (slice_index ws 1) (drop 3 ws);
      };
    } ∷ clauses_in (at + 1) (slice_index ws 1 + 3) ws

-- a clause stands at the place
pub record IsClauseAt (words : List ℕ) (at : ℕ) : Type 0 where
  pub before : List ℕ
  pub clause : Stored
  pub rest : List ℕ
  pub parts : words ≡ before ++ spelling clause ++ rest
  pub place : at ≡ length before
