use Rattle.std.proofs.Common.{ℕ, Bor, List, map, ap, ◌∙◌}
use Rattle.bs_inspect_plans.specs.Said.{keys_unlisted}
use Rattle.bs_inspect_netlist_requests.proofs.chain.unlisted_keys.Goals as goal

pub returns : goal.returns
returns c =
    c.in_ok-keys.ensures
    ∙ ap (λ (ks : List (List ℕ)). keys_unlisted ks c.args.order.now)
    (ap (λ (ks : List (Bor (List ℕ))). map (λ k. k.now) ks) c.as_slice.ensures.value ∙ c.in_ok-all.ensures)
