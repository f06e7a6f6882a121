use Rattle.std.proofs.Common.{◌∙◌, ap, List, ℕ, length}
use Rattle.bs_net.specs.Order.{gates_in}
use Rattle.bs_net.specs.Parts.{Parts}
use Rattle.bs_inspect_netlist.specs.Marks.{marked, starts}
use Rattle.bs_inspect_netlist.proofs.MarkLemmas.{marks_are}
use Rattle.bs_inspect_netlist.proofs.marking.marks.Goals as goal

pub returns : goal.returns
returns c =
    marks_are c.args.measure c.args.net.now.raw c.args.net.now.order _ c.raw-raw.ensures.ordered c.raw-raw.ensures.checked
    (c.in_ok-table.ensures
    ∙ (ap (λ (r : Parts). marked c.args.measure (gates_in c.slice.result.now r.gates) (starts c.args.measure (length r.names))) c.raw-raw.ensures.parts
    ∙ ap (λ (is : List ℕ). marked c.args.measure (gates_in is c.args.net.now.raw.gates) (starts c.args.measure (length c.args.net.now.raw.names)))
    (c.slice.ensures ∙ c.order.ensures.order)))
