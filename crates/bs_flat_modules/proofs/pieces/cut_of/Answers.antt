use Rattle.std.proofs.Math.Path.{subst}
use Rattle.bs_flat_modules.specs.Dealing.{IsPast}
use Rattle.bs_flat_modules.proofs.PieceLemmas.{cut_unclosed}
use Rattle.bs_flat_modules.proofs.pieces.cut_of.Goals as goal

pub returns-in-None : goal.returns-in-None
returns-in-None c = cut_unclosed c.args.ts.now c.requires.some (subst (IsPast c.args.ts.now) c.in-None.is c.requires.past)
