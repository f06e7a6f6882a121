use Rattle.std.proofs.Common.{rules}
use Rattle.std.proofs.lemmas.List.Sorted.{answers_always}
use Rattle.bs_preimage.proofs.OrderLemmas.{if_ok, in_order_by, state_order}
use Rattle.bs_preimage.proofs.order.ascending.Goals as goal

-- src/order.rt:21:1
pub returns : goal.returns
returns c =
    if_ok c.listed.result _ _
    (λ cands same.
    in_order_by c.args.found.items c.sort_by.new.self.items cands c.in_ok-sort_by.ensures.permutation
    (c.in_ok-sort_by.ensures.sorted _ state_order (answers_always _ _ _ (λ f a r g called. search rules))) same)
    c.listed.ensures
