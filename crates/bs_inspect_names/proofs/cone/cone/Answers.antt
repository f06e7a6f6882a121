use Rattle.std.proofs.Common.{◌∙◌, ap, List, ℕ, length}
use Rattle.bs_net.specs.Order.{gates_in}
use Rattle.bs_net.specs.Parts.{Parts}
use Rattle.bs_inspect_names.specs.Cone.{behind, named_nets}
use Rattle.bs_inspect_names.proofs.ConeLemmas.{cone_is}
use Rattle.bs_inspect_names.proofs.cone.cone.Goals as goal

pub returns : goal.returns
returns c =
    cone_is c.args.net.now.raw c.args.name.now c.args.net.now.order _ c.raw-raw.ensures.placed c.raw-raw.ensures.ordered
    (c.in_ok-table.ensures
    ∙ (ap (λ (r : Parts). behind (gates_in c.slice.result.now r.gates) (named_nets r c.args.name.now (length r.names))) c.raw-raw.ensures.parts
    ∙ ap (λ (is : List ℕ). behind (gates_in is c.args.net.now.raw.gates) (named_nets c.args.net.now.raw c.args.name.now (length c.args.net.now.raw.names)))
    (c.slice.ensures ∙ c.order.ensures.order)))
