-- What a renaming holds.
use Rattle.std.specs.Prelude.{◌≡◌, ℕ, ◌<◌, ◌≤◌, ◌==◌, List, length, find, Option, Some, is_some, option_map, slice_index_or}
use Rattle.bs_arena.specs.Arena.{Held, held_at, meaning}

-- the old and the new reference of each clause, and how many such pairs there is room for
pub record NewNames : Type 0 where
  pub names : List (ℕ × ℕ)
  pub spare : ℕ

-- the new reference of an old one, if it has one
abbrev pub new_name : List (ℕ × ℕ) → ℕ → Option ℕ
new_name names r = option_map (λ name. name.1) (find (λ name. name.0 == r) names)

-- a reference has a new one exactly where it was live, that names a clause of the same meaning, and no two have one
pub record IsRenaming (old new : List Held) (names : List (ℕ × ℕ)) : Type 0 where
  pub named : (r : ℕ) → is_some (new_name names r) ≡ is_some (held_at old r)
  pub same : (r s : ℕ) → new_name names r ≡ Some s → option_map meaning (held_at new s) ≡ option_map meaning (held_at old r)
  pub apart : (q r s : ℕ) → new_name names q ≡ Some s → new_name names r ≡ Some s → q ≡ r

-- the old references ascend
pub record IsAscending (names : List (ℕ × ℕ)) : Type 0 where
  pub ascends : (i j : ℕ) (d : ℕ × ℕ) → i < j → j < length names → (slice_index_or names i d).0 < (slice_index_or names j d).0

-- all old references before the place are less than this one, and those from it on are not
pub record IsPlaceOf (names : List (ℕ × ℕ)) (r place : ℕ) : Type 0 where
  pub before : (i : ℕ) (d : ℕ × ℕ) → i < place → i < length names → (slice_index_or names i d).0 < r
  pub after : (i : ℕ) (d : ℕ × ℕ) → place ≤ i → i < length names → r ≤ (slice_index_or names i d).0
