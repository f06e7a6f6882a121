-- The watch lists.
use Rattle.std.specs.Prelude.{◌≡◌, ℕ, List, [], ◌∷◌, ◌++◌, Some, map, slice_get, slice_set, slice_index_or, unwrap_or}
use Rattle.bs_arena.specs.Renaming.{new_name}
use Rattle.bs_clause.specs.Literal.{Literal, code_of}
use Rattle.bs_watch.specs.declared.lists.Watcher.{Watcher}

-- the watchers of a literal
abbrev pub row : List (List Watcher) → Literal → List Watcher
row lists l = slice_index_or lists (code_of l) []

-- with other watchers of a literal
abbrev pub with_row : List (List Watcher) → Literal → List Watcher → List (List Watcher)
with_row lists l ws = slice_set lists (code_of l) ws

-- with one more watcher of a literal
abbrev pub with_watcher : List (List Watcher) → Literal → Watcher → List (List Watcher)
with_watcher lists l w = with_row lists l (row lists l ++ w ∷ [])

-- with the clause in the lists of two literals, the other one being the blocker in each
abbrev pub with_two : List (List Watcher) → ℕ → Literal → Literal → List (List Watcher)
with_two lists r first second =
    with_watcher (with_watcher lists first (record { clause = r; blocker = second })) second
    (record { clause = r; blocker = first })

-- the clause is in the list
pub record IsIn (watchers : List Watcher) (r : ℕ) : Type 0 where
  pub at : ℕ
  pub watcher : Watcher
  pub there : slice_get watchers at ≡ Some watcher
  pub same : watcher.clause ≡ r

-- the clause is in one of the lists
abbrev pub IsAttached : List (List Watcher) → ℕ → Type 0
IsAttached lists r = (l : Literal) × IsIn (row lists l) r

-- no clause is in the list twice
pub record IsOnce (ws : List Watcher) : Type 0 where
  pub once : (i j : ℕ) (v w : Watcher) → slice_get ws i ≡ Some v → slice_get ws j ≡ Some w →
      v.clause ≡ w.clause → i ≡ j

-- with its clause's new reference
abbrev pub renamed : List (ℕ × ℕ) → Watcher → Watcher
renamed names w =
    record { clause = unwrap_or (new_name names w.clause) w.clause; blocker = w.blocker }

-- each watcher of each list with its new reference
abbrev pub renamed_lists : List (ℕ × ℕ) → List (List Watcher) → List (List Watcher)
renamed_lists names lists = map (λ ws. map (renamed names) ws) lists
