use Rattle.bs_reach_unrolled.specs.Unrolled.{unrolled}
use Rattle.bs_reach.proofs.FailedAssumptionLemmas.{length_denied}
use Rattle.bs_reach.proofs.failed_assumptions.as_failed_assumption.Goals as goal

pub returns : goal.returns
returns c =
    length_denied (unrolled c.args._encoding.now c.args._reset.now c.args._k) c.args._encoding.now c.args._k c.args._c c.args._state.now c.args.lemma
    c.requires
