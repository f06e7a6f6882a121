use Rattle.std.proofs.Common.{◌≡◌, ◌++◌}
use Rattle.std.specs.List.{flat_map, range_with_len}
use Rattle.bs_inspect_page.specs.Last.{cand_column}
use Rattle.bs_inspect_page.proofs.last_list.push_columns.Given as goal

abbrev pub invariant-cands : goal.invariant-cands
invariant-cands l = l.text.items ≡ l.initial.text.items ++ flat_map cand_column (range_with_len 0 l.i)
