use Rattle.bs_watch.specs.Watch.{Serves}
use Rattle.bs_rows_chip.proofs.watch_rows.chain.Given as goal

abbrev pub invariant-links : goal.invariant-links
invariant-links l = Serves l.watch l.arena.clauses
