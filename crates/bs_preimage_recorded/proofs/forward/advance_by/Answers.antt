use Rattle.bs_preimage_recorded.proofs.ForwardLemmas.{brought_ahead}
use Rattle.bs_preimage_recorded.proofs.forward.advance_by.Goals as goal

pub advance-requires-clause-ahead : goal.advance-requires-clause-ahead
advance-requires-clause-ahead c =
    brought_ahead c.args.pass.now c.lend.new.pass c.args.low.now c.args.high.now c.args.rows.now c.len.result c.requires.ahead c.lend.ensures.same
    c.len.ensures c.lend.ensures.there
