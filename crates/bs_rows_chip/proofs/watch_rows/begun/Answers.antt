use Rattle.bs_rows_chip.proofs.watch_rows.begun.Goals as goal

pub returns : goal.returns
returns c = c.in_ok-watch.ensures.serves.serves c.args.arena.now.clauses
