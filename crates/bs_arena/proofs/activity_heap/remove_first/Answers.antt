use Rattle.bs_arena.proofs.Sorting.{most_active}
use Rattle.bs_arena.proofs.activity_heap.remove_first.Goals as goal

pub returns-clause-greatest : goal.returns-clause-greatest
returns-clause-greatest c =
    most_active c.args.heap.now.items c.args.activities.now c.args.positions.now c.drop_first-first.result c.requires.fits c.requires.sorted c.drop_first-first.ensures.first
