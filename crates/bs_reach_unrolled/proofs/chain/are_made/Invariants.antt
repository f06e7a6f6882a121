use Rattle.bs_reach_unrolled.specs.Chain.{AreMade}
use Rattle.bs_reach_unrolled.proofs.chain.are_made.Given as goal

abbrev pub invariant-chain : goal.invariant-chain
invariant-chain l = AreMade l.literals l.clauses l.places l.i
