use Rattle.bs_arena.proofs.Fitting.{exchanged}
use Rattle.bs_arena.proofs.activity_heap.exchange.Goals as goal

pub returns-clause-fits : goal.returns-clause-fits
returns-clause-fits c = exchanged c.args.heap.now c.args.positions.now c.args.i c.args.j c.requires.fits c.requires.first c.requires.second
