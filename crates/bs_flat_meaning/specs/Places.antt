-- Where the module with a name stands among all.
use Rattle.std.specs.Prelude.{◌≡◌, ℕ, ◌+◌, nat_lt, if◌then◌else◌, List, length, Option, Some, None, unwrap_or, slice_index_or, slice_set}
use Rattle.std.specs.List.{position_or_len}
use Rattle.bs_flat_meaning.specs.Reading.{is_id}

-- one more than the number of a name
abbrev pub past : Option ℕ → ℕ
past (Some id) = id + 1
past None = 0

-- a table of places after one module more: a name that has a place keeps it
abbrev pub noted : Option ℕ → ℕ → List (Option ℕ) → List (Option ℕ)
noted (Some id) k table = slice_set table id (Some (unwrap_or (slice_index_or table id None) k))
noted None k table = table

-- the first of the modules that has a name
abbrev pub place_by_id : List (Option ℕ) → ℕ → ℕ
place_by_id ids id = position_or_len (is_id id) ids

-- a place that is one of so many
abbrev pub within : ℕ → ℕ → Option ℕ
within count n = if nat_lt n count then Some n else None

-- a name has a place in the table where it is that of a module, and this is the first
pub record ArePlaces (ids table : List (Option ℕ)) : Type 0 where
  pub each : (id : ℕ) → slice_index_or table id None ≡ within (length ids) (place_by_id ids id)
