use Rattle.bs_flat_nets.proofs.ChildrenLemmas.{numbered_is_children_first}
use Rattle.bs_flat_nets.proofs.law.numbered_orders_are_children_first.Goals as goal

pub returns : goal.returns
returns c = numbered_is_children_first
