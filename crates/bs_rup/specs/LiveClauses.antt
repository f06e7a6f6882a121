-- The clauses of a log, each at the place of its id.
use Rattle.std.specs.Prelude.{ℕ, ◌+◌, ◌==◌, not, cond, List, [], ◌∷◌, ◌++◌, length}
use Rattle.std.specs.List.{filter, list_any}
use Rattle.bs_clause.specs.Literal.{Clause}
use Rattle.bs_log.specs.declared.origin.Origin.{Origin}
use Rattle.bs_log.specs.History.{Entry}
use Rattle.bs_rup.specs.declared.live_clauses.Stored.{Stored}

abbrev pub entry_from : ℕ → Stored → Entry
entry_from id s = record { id = id; origin = s.origin; literals = s.lits.now }

-- the live ones, where the first has the id n
abbrev pub live_from : ℕ → List Stored → List Entry
live_from n [] = []
live_from n (s ∷ ss) = cond s.live (entry_from n s ∷ live_from (n + 1) ss) (live_from (n + 1) ss)

-- one clause more, under the next id
abbrev pub with_entry : List Stored → Origin → Clause → List Entry
with_entry stored origin lits = live_from 1 stored ++ record { id = length stored + 1; origin = origin; literals = lits } ∷ []

-- the entries of other ids
abbrev pub without_ids : List ℕ → List Entry → List Entry
without_ids ids entries = filter (λ e. not (list_any (λ id. e.id == id) ids)) entries
