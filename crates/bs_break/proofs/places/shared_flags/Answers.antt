use Rattle.bs_break.proofs.PlaceLemmas.{all_shared}
use Rattle.bs_break.proofs.places.shared_flags.Goals as goal

pub returns : goal.returns
returns g c =
    all_shared g.S.HasState.shown c.args.states.now c.states.i c.args.width c.states.flags.items c.states-test.false c.states.invariant
