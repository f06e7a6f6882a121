use Rattle.std.proofs.Common.{◌≡◌, ◌++◌, map, take, drop, length}
use Rattle.bs_solve_lemmas.specs.Keeping.{renamed_row}
use Rattle.bs_solve_lemmas.proofs.compaction.rename_rows.Given as goal

abbrev pub invariant-rows : goal.invariant-rows
invariant-rows l = record {
  items : l.rows.items ≡ map (renamed_row l.names.names) (take l.at l.initial.rows.items) ++ drop l.at l.initial.rows.items;
  long : length l.rows.items ≡ length l.initial.rows.items;
}
