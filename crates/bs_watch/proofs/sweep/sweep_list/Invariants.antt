use Rattle.std.proofs.Common.{◌-◌, length}
use Rattle.bs_watch.specs.Lists.{row}
use Rattle.bs_watch.specs.Sweep.{Thins, AreLiveTo}
use Rattle.bs_watch.proofs.sweep.sweep_list.Given as goal

abbrev pub invariant-watchers : goal.invariant-watchers
invariant-watchers l = record {
  thins : Thins l.arena.clauses l.initial.lists l.lists;
  live : AreLiveTo l.arena.clauses l.lists l.l l.at;
}

abbrev pub decreases-watchers : goal.decreases-watchers
decreases-watchers l = length (row l.lists l.l) - l.at
