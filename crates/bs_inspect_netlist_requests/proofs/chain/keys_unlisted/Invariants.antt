use Rattle.std.proofs.Common.{◌≡◌, map}
use Rattle.bs_inspect_netlist_requests.proofs.ChainLemmas.{picked}
use Rattle.bs_inspect_netlist_requests.proofs.chain.keys_unlisted.Given as goal

abbrev pub invariant-flops : goal.invariant-flops
invariant-flops l = map (λ k. k.now) l.keys.items ≡ picked (map (λ k. k.now) l.all) l.order l.flop
