-- The values of variables in a row.
use Rattle.std.specs.Prelude.{◌≡◌, ℕ, ◌-◌, ◌<◌, ◌≤◌, Bool, false, List, length, Some, slice_get, slice_index_or}
use Rattle.bs_clause.specs.Literal.{code_of}
use Rattle.bs_solve_lemmas.specs.Values.{positive}

-- the values of the variables from one to before another, by the values of all literals
pub record AreBetween (trues : List Bool) (first past : ℕ) (values : List Bool) : Type 0 where
  pub length_is : length values ≡ past - first
  pub given : (v : ℕ) → first ≤ v → v < past → slice_get values (v - first) ≡ Some (slice_index_or trues (code_of (positive v)) false)
