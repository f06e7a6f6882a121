use Rattle.bs_reach.proofs.SoughtLemmas.{refuted_sought}
use Rattle.bs_reach.proofs.answer.as_refuted.Goals as goal

pub returns : goal.returns
returns c =
    refuted_sought c.args._encoding.now c.args._reset.now c.args._state.now c.args.k c.args.b c.args.log c.without_states.result c.answered.result
    c.without_states.ensures c.answered.ensures c.requires
