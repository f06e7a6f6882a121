use Rattle.bs_flat_modules.proofs.PieceLemmas.{passed}
use Rattle.bs_flat_modules.proofs.pieces.attributes_size.Goals as goal

pub returns-in-Ok : goal.returns-in-Ok
returns-in-Ok c = passed c.args.ts.now c.in-Ok.here.now c.in-Ok.ensures.skips
