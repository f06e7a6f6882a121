use Rattle.bs_net_facts.proofs.ToldLemmas.{block_made}
use Rattle.bs_net_facts.proofs.block_check.is_block.Goals as goal

pub returns : goal.returns
returns c = λ yes.
    let within = c.if-not-is_within.false in
    block_made c.args.moments.now c.args.block.now c.slice.result.now c.slice-2.result.now c.net.result.now c.slice.ensures c.slice-2.ensures
    (c.are_real.ensures c.if-not-are_real.false) (c.is_shown.ensures c.if-not-is_shown.false) (c.are_earlier.ensures c.if-not-are_earlier.false)
    (c.is_within.ensures.some within) (c.is_within.ensures.order within) (c.is_within.ensures.last within) (c.is_within.ensures.start within)
    c.net.ensures (c.in_ok-forced.ensures yes)
