use Rattle.std.proofs.Common.{map}
use Rattle.bs_inspect_netlist_requests.proofs.ChainLemmas.{unlisted_more}
use Rattle.bs_inspect_netlist_requests.proofs.chain.keys_unlisted.Goals as goal

pub flops-preserved : goal.flops-preserved
flops-preserved c =
    unlisted_more (map (λ k. k.now) c.args.all.now) c.args.order.now c.flops.flop c.key_of-key.result.now c.is_unlisted.result
    (map (λ k. k.now) c.flops.keys.items) _ c.key_of-key.ensures c.is_unlisted.ensures c.flops.invariant c.in_ok-add_if.ensures
