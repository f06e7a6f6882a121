use Rattle.bs_solve.proofs.starting.filled.Goals as goal

pub add_all-requires-clause-serves : goal.add_all-requires-clause-serves
add_all-requires-clause-serves c = c.in_ok-watch.ensures.serves.serves c.new-arena.result.clauses
