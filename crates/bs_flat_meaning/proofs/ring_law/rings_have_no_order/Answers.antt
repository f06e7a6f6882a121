use Rattle.bs_flat_meaning.proofs.RingOrderLemmas.{rings_have_no_order}
use Rattle.bs_flat_meaning.proofs.ring_law.rings_have_no_order.Goals as goal

pub returns : goal.returns
returns c = rings_have_no_order
