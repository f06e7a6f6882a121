use Rattle.std.proofs.Common.{◌≡◌, ◌<◌, ◌≤◌, ℕ, length, List, subst, sym, arith, ◌∙◌, ap}
use Rattle.std.specs.List.{All}
use Rattle.bs_net.specs.declared.net.Gate.{Gate}
use Rattle.bs_net.specs.Netlist.{parts_of}
use Rattle.bs_net.proofs.NetlistLemmas.{order_below}
use Rattle.bs_inspect_netlist.proofs.MarkLemmas.{starts_small, starts_wide, outs_placed, ins_placed, order_few}
use Rattle.bs_inspect_netlist.proofs.marking.marks_in.Goals as goal

pub mark_gates-requires-clause-numbered : goal.mark_gates-requires-clause-numbered
mark_gates-requires-clause-numbered c =
    let P : List Gate → Type 0 = λ gs. All (λ i. i < length gs) c.args.order.now in
    subst P (sym c.slice.ensures) (order_below _ _ c.requires.ordered)

pub mark_gates-requires-clause-outs : goal.mark_gates-requires-clause-outs
mark_gates-requires-clause-outs c =
    outs_placed (parts_of c.args.raw.now) _ _ c.requires.placed c.slice.ensures
    (ap length c.in_ok-table.ensures ∙ (starts_wide c.args.measure c.len-count.result ∙ c.len-count.ensures))

pub mark_gates-requires-clause-ins : goal.mark_gates-requires-clause-ins
mark_gates-requires-clause-ins c =
    ins_placed (parts_of c.args.raw.now) _ _ c.requires.placed c.slice.ensures
    (ap length c.in_ok-table.ensures ∙ (starts_wide c.args.measure c.len-count.result ∙ c.len-count.ensures))

pub mark_gates-requires-clause-small : goal.mark_gates-requires-clause-small
mark_gates-requires-clause-small c =
    let P : List ℕ → Type 0 = λ t. All (λ m. m ≤ c.len-count.result) t in
    subst P (sym c.in_ok-table.ensures) (starts_small c.args.measure c.len-count.result)

pub mark_gates-requires-clause-bound : goal.mark_gates-requires-clause-bound
mark_gates-requires-clause-bound c =
    let wide : length c.in_ok-table.table.items ≡ c.len-count.result = ap length c.in_ok-table.ensures ∙ starts_wide c.args.measure c.len-count.result in
    omega (arith, wide)

pub mark_gates-requires-clause-few : goal.mark_gates-requires-clause-few
mark_gates-requires-clause-few c = order_few (parts_of c.args.raw.now) c.args.order.now c.requires.placed c.requires.ordered
