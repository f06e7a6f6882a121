-- Each instance by the number of its module.
use Rattle.std.specs.Prelude.{ℕ, List, map, Option, None, slice_index_or}
use Rattle.bs_flat_meaning.specs.declared.statements.Written.{Written}
use Rattle.bs_flat_meaning.specs.Places.{place_by_id}

-- the place of an instance's module in a table
abbrev pub looked_up : List (Option ℕ) → Written → Option ℕ
looked_up table w = slice_index_or table w.of.id None

-- the modules that some instances are of, where these are the numbers of the modules' names
abbrev pub numbers_of : List (Option ℕ) → List Written → List ℕ
numbers_of ids ws = map (λ w. place_by_id ids w.of.id) ws

-- of each module, those of the instances that it writes
abbrev pub numbers_by : List (Option ℕ) → List (List Written) → List (List ℕ)
numbers_by ids written = map (numbers_of ids) written
