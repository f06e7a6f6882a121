-- The lemmas and blocks of a log as rows over an arena, and which of them stay at a step's end.
use Rattle.std.specs.Prelude.{◌≡◌, ℕ, ◌<◌, ◌≤◌, Bool, true, not, ◌&&◌, cond, List, [], ◌++◌, ◌∷◌}
use Rattle.std.specs.Prelude.{map, take, length, count_by, option_map, unwrap_or, Some, All, slice_get}
use Rattle.bs_clause.specs.Literal.{Literal}
use Rattle.bs_arena.specs.Arena.{Held, held_at, literals_at}
use Rattle.bs_arena.specs.Renaming.{new_name}
use Rattle.bs_log.specs.declared.origin.Origin.TheVariants.{Learnt, Blocked}
use Rattle.bs_log.specs.History.{Problem, Entry}
use Rattle.bs_log.specs.Kept.{is_free_lemma, is_long, is_kept}
use Rattle.bs_solve_lemmas.specs.declared.row.LoggedClause.{LoggedClause}

-- a log over so many variables of its own
abbrev pub over : ℕ → Problem
over own = record { vars = own; clauses = []; steps = [] }

-- a row as the log has it
abbrev pub entry_in : List Held → LoggedClause → Entry
entry_in clauses row = record { id = row.id; origin = cond row.is_lemma Learnt Blocked; literals = literals_at clauses row.clause }

-- a lemma without the activation literal of a retired step, and a long one
abbrev pub is_free_row : ℕ → ℕ → List Held → LoggedClause → Bool
is_free_row own steps clauses row = is_free_lemma (over own) steps (entry_in clauses row)

abbrev pub is_long_row : ℕ → ℕ → List Held → LoggedClause → Bool
is_long_row own steps clauses row = is_free_row own steps clauses row && is_long (entry_in clauses row)

-- the row is kept at the end of this step, by the log's rule
abbrev pub stays : ℕ → ℕ → List Held → List LoggedClause → LoggedClause → Bool
stays own steps clauses rows row = is_kept (over own) steps (map (entry_in clauses) rows) (entry_in clauses row)

abbrev pub goes : ℕ → ℕ → List Held → List LoggedClause → LoggedClause → Bool
goes own steps clauses rows row = not (stays own steps clauses rows row)

-- the ids ascend
pub record Ascends (rows : List LoggedClause) : Type 0 where
  pub below : (i j : ℕ) (a b : LoggedClause) → i < j → slice_get rows i ≡ Some a → slice_get rows j ≡ Some b → a.id < b.id

-- each row's clause is live under the row's id
abbrev pub AreHeld : List Held → List LoggedClause → Type 0
AreHeld clauses rows = All (λ row. option_map (λ h. h.id) (held_at clauses row.clause) ≡ Some row.id) rows

-- the first so many rows are free lemmas, and so many of them long
pub record AreKnown (own steps : ℕ) (clauses : List Held) (rows : List LoggedClause) (from' long : ℕ) : Type 0 where
  pub low : from' ≤ length rows
  pub free : All (λ row. is_free_row own steps clauses row ≡ true) (take from' rows)
  pub counted : long ≡ count_by (is_long_row own steps clauses) (take from' rows)

-- the first two literals of each row's clause
abbrev pub watched_in : List Held → List LoggedClause → List Literal
watched_in clauses [] = []
watched_in clauses (row ∷ rows) = take 2 (literals_at clauses row.clause) ++ watched_in clauses rows

-- ---- compaction

-- the new reference of a clause
abbrev pub renamed_ref : List (ℕ × ℕ) → ℕ → ℕ
renamed_ref names r = unwrap_or (new_name names r) r

abbrev pub renamed_row : List (ℕ × ℕ) → LoggedClause → LoggedClause
renamed_row names row = record { id = row.id; clause = renamed_ref names row.clause; is_lemma = row.is_lemma }
