use Rattle.bs_reach_unrolled.proofs.Reading.{one_more}
use Rattle.bs_reach_unrolled.proofs.chain.are_made.Goals as goal

pub chain-preserved : goal.chain-preserved
chain-preserved c =
    one_more c.args.literals.now c.args.clauses.now c.args.places.now c.chain.i c.chain.invariant c.if-not-is_made.ensures
