use Rattle.std.proofs.Common.{◌≡◌, ◌<◌, length, List, subst, sym, ◌∙◌, ap}
use Rattle.std.specs.List.{All}
use Rattle.bs_net.specs.declared.net.Gate.{Gate}
use Rattle.bs_net.specs.Netlist.{parts_of}
use Rattle.bs_net.proofs.NetlistLemmas.{order_below}
use Rattle.bs_inspect_names.proofs.ConeLemmas.{named_wide, gates_ins}
use Rattle.bs_inspect_names.proofs.cone.cone_in.Goals as goal

pub mark_all-requires-clause-numbered : goal.mark_all-requires-clause-numbered
mark_all-requires-clause-numbered c =
    let P : List Gate → Type 0 = λ gs. All (λ i. i < length gs) c.args.order.now in
    subst P (sym c.slice.ensures) (order_below _ _ c.requires.ordered)

pub mark_all-requires-clause-ins : goal.mark_all-requires-clause-ins
mark_all-requires-clause-ins c =
    gates_ins (parts_of c.args.raw.now) _ _ c.requires.placed c.slice.ensures
    (ap length c.in_ok-table.ensures ∙ named_wide (parts_of c.args.raw.now) c.args.name.now (length c.args.raw.now.names))
