use Rattle.bs_inspect_near.proofs.StateLemmas.{with_is}
use Rattle.bs_inspect_near.proofs.states.with_known.Goals as goal

pub returns : goal.returns
returns c =
    with_is c.args.seen.now (record { bits = c.in_ok-bits.bits; free = c.in_ok-free.free }) c.args.known.now c.in_ok-bits.ensures c.in_ok-free.ensures
