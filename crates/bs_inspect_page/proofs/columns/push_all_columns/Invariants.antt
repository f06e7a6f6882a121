use Rattle.std.proofs.Common.{◌≡◌, ◌++◌}
use Rattle.std.specs.List.{flat_map, range_with_len}
use Rattle.bs_inspect_page.specs.Columns.{column_text}
use Rattle.bs_inspect_page.proofs.columns.push_all_columns.Given as goal

abbrev pub invariant-states : goal.invariant-states
invariant-states l = l.text.items ≡ l.initial.text.items ++ flat_map (column_text l.report) (range_with_len 0 l.i)
