use Rattle.bs_watch.specs.Sweep.{Thins, AreLiveIn}
use Rattle.bs_watch.proofs.sweep.sweep_lists.Given as goal

abbrev pub invariant-literals : goal.invariant-literals
invariant-literals l = record {
  thins : Thins l.arena.clauses l.initial.lists l.lists;
  live : AreLiveIn l.arena.clauses l.lists l.literals l.at;
}
