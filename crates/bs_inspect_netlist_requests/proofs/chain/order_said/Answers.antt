use Rattle.std.proofs.Common.{ℕ, List, length, ap, subst, ◌∙◌}
use Rattle.bs_call.specs.Note.{DueText}
use Rattle.bs_inspect_netlist.specs.Order.{unlisted_count}
use Rattle.bs_inspect_plans.specs.Said.{count_doubt}
use Rattle.bs_inspect_netlist_requests.proofs.chain.order_said.Goals as goal

pub returns : goal.returns
returns c =
    subst
    (λ (order : List ℕ). DueText (count_doubt (unlisted_count (length c.args.scanned.now.net.raw.flops) order) c.args.scanned.now.net.raw order) c.count_said.result)
    c.as_slice-order.ensures.value
    (subst (λ (n : ℕ). DueText (count_doubt n c.args.scanned.now.net.raw c.as_slice-order.result.now) c.count_said.result)
    (c.unlisted_count-count.ensures ∙ ap (λ (w : ℕ). unlisted_count w c.as_slice-order.result.now) c.width.ensures) c.count_said.ensures)
