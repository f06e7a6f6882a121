-- Signals in the order of their last change.
use Rattle.std.specs.Prelude.{ℕ, max, List, length, map, fold, slice_index_or}
use Rattle.std.specs.List.{range_with_len}
use Rattle.std.specs.List.Sorted.{IsPermutation, IsSorted}
use Rattle.std.specs.declared.cmp.Ordering.{Ordering}
use Rattle.std.specs.Ordering.{nat_cmp, ordering_then}
use Rattle.bs_inspect_view.specs.Signals.{Signal}
use Rattle.bs_inspect_why_words.specs.Facts.{signal_at}
use Rattle.bs_inspect_why_words.specs.declared.row.Row.{Row}

-- the later of a cycle and that at a place
abbrev pub later : List ℕ → ℕ → ℕ → ℕ
later ages cycle place = max cycle (slice_index_or ages place 0)

-- the latest of the cycles at some places
abbrev pub latest : List ℕ → List ℕ → ℕ
latest ages places = fold (later ages) 0 places

-- the place of a signal, and since when all its bits have stood
abbrev pub row_of : List ℕ → List Signal → ℕ → Row
row_of ages signals i = record { place = i; since = latest ages (signal_at signals i).places }

abbrev pub rows_of : List ℕ → List Signal → ℕ → List Row
rows_of ages signals count = map (row_of ages signals) (range_with_len 0 count)

-- the newest first, and of one cycle in the order of the signals
abbrev pub row_cmp : Row → Row → Ordering
row_cmp a b = ordering_then (nat_cmp b.since a.since) (nat_cmp a.place b.place)

-- all signals, in this order
pub record AreRows (ages : List ℕ) (signals : List Signal) (rows : List Row) : Type 0 where
  pub same : IsPermutation (rows_of ages signals (length signals)) rows
  pub in_order : IsSorted row_cmp rows
