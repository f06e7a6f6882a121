use Rattle.bs_break.proofs.MaskLemmas.{one_more_joined}
use Rattle.bs_break.proofs.masks.agreeing_with_one.Goals as goal

pub states-preserved : goal.states-preserved
states-preserved g c =
    let shown = g.S.HasState.shown in
    one_more_joined shown c.args.wide c.args.planes.now c.args.word c.args.places.now c.args.states.now c.states.i c.index-states-i.result c.state.result.now
    c.args.mask c.states.hits c.agreeing-hits.result c.states-test.true c.index-states-i.is c.state.ensures c.states.invariant c.agreeing-hits.ensures
