use Rattle.std.proofs.Common.{◌≡◌, ◌++◌, map, take, drop, length}
use Rattle.bs_watch.specs.Tables.{renamed_cause}
use Rattle.bs_watch.proofs.renaming.rename_causes.Given as goal

abbrev pub invariant-causes : goal.invariant-causes
invariant-causes l = record {
  items : l.causes.items ≡ map (renamed_cause l.names.names) (take l.at l.initial.causes.items) ++ drop l.at l.initial.causes.items;
  long : length l.causes.items ≡ length l.initial.causes.items;
}
