use Rattle.bs_gen.specs.Draws.{draws_of}
use Rattle.bs_gen.proofs.draws.Draws.new.Goals as goal

pub returns : goal.returns
unfolding draws_of
returns c = c.new.ensures
