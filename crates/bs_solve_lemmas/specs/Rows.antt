-- The rows beside the entries of a log.
use Rattle.std.specs.Prelude.{◌≡◌, ℕ, ◌<◌, not, List, [], ◌∷◌, Some, slice_get, IsPermutation}
use Rattle.std.specs.List.{filter}
use Rattle.bs_arena.specs.Arena.{Held, literals_at}
use Rattle.bs_log.specs.History.{Problem, Entry}
use Rattle.bs_log.specs.Refusal.{is_lemma, is_lemma_or_block}
use Rattle.bs_log.specs.Kept.{is_kept}
use Rattle.bs_solve_lemmas.specs.declared.row.LoggedClause.{LoggedClause}

-- the row has the entry's id, and its clause has the entry's literals in some order
pub record IsRowOf (clauses : List Held) (row : LoggedClause) (e : Entry) : Type 0 where
  pub id_is : row.id ≡ e.id
  pub lemma_is : row.is_lemma ≡ is_lemma e
  pub same : IsPermutation e.literals (literals_at clauses row.clause)

-- one by one
abbrev pub AreRowsOf : List Held → List LoggedClause → List Entry → Type 0
AreRowsOf clauses [] [] = Unit {0}
AreRowsOf clauses [] (e ∷ es) = ⊥
AreRowsOf clauses (row ∷ rows) [] = ⊥
AreRowsOf clauses (row ∷ rows) (e ∷ es) = IsRowOf clauses row e × AreRowsOf clauses rows es

-- the rows are those of the lemmas and blocks among the entries
abbrev pub AreRowsAmong : List Held → List LoggedClause → List Entry → Type 0
AreRowsAmong clauses rows entries = AreRowsOf clauses rows (filter is_lemma_or_block entries)

-- the entries' ids ascend
pub record AreInOrder (entries : List Entry) : Type 0 where
  pub below : (i j : ℕ) (a b : Entry) → i < j → slice_get entries i ≡ Some a → slice_get entries j ≡ Some b → a.id < b.id

-- the lemmas and blocks that are not kept when the step has ended
abbrev pub going : Problem → ℕ → List Entry → List Entry
going p step entries = filter (λ e. not (is_kept p step entries e)) (filter is_lemma_or_block entries)
