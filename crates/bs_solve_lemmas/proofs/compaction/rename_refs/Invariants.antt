use Rattle.std.proofs.Common.{◌≡◌, ◌++◌, map, take, drop, length}
use Rattle.bs_solve_lemmas.specs.Keeping.{renamed_ref}
use Rattle.bs_solve_lemmas.proofs.compaction.rename_refs.Given as goal

abbrev pub invariant-refs : goal.invariant-refs
invariant-refs l = record {
  items : l.refs.items ≡ map (renamed_ref l.names.names) (take l.at l.initial.refs.items) ++ drop l.at l.initial.refs.items;
  long : length l.refs.items ≡ length l.initial.refs.items;
}
