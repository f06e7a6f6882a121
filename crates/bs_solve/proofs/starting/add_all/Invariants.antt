use Rattle.std.proofs.Common.{◌≡◌, take}
use Rattle.bs_log.specs.History.{axioms_from}
use Rattle.bs_arena.specs.Arena.{live_words}
use Rattle.bs_watch.specs.Watch.{Serves}
use Rattle.bs_solve.specs.Database.{HoldsEntries}
use Rattle.bs_solve.proofs.starting.add_all.Given as goal

abbrev pub invariant-clauses : goal.invariant-clauses
invariant-clauses l = record {
  holds_entries : HoldsEntries l.watch.lists l.arena.clauses l.database (axioms_from 1 (take l.at l.clauses));
  serves : Serves l.watch l.arena.clauses;
  trail : l.watch.trail ≡ l.initial.watch.trail;
  levels : l.watch.levels ≡ l.initial.watch.levels;
  words : l.arena.words ≡ live_words l.arena.clauses;
}
