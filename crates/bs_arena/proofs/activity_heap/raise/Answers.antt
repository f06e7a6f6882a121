use Rattle.bs_arena.proofs.activity_heap.raise.Goals as goal

pub sift_up-requires-clause-within : goal.sift_up-requires-clause-within
sift_up-requires-clause-within c = (c.requires.fits.stands c.args.variable c.in-Some.place c.in-Some.is).0
