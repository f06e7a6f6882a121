use Rattle.std.proofs.Common.{◌≡◌, ◌∙◌, List, ap, subst}
use Rattle.bs_net.specs.declared.net.Flop.{Flop}
use Rattle.bs_net.specs.Netlist.{circuit}
use Rattle.bs_lanes.specs.Settling.{ResetsAll}
use Rattle.bs_lanes.proofs.LayoutLemmas.{has_layout, table_reset}
use Rattle.bs_lanes.proofs.lanes.Lanes.reset.Goals as goal

pub reset_all-requires-clause-placed : goal.reset_all-requires-clause-placed
reset_all-requires-clause-placed c =
    let i = c.self.inside in
    has_layout (circuit i.net.now) i.layout i.wide i.nets.items c.self.invariant.2 c.self.invariant.3

pub invariant_of-self : goal.invariant_of-self
invariant_of-self c =
    let i = c.self.inside in
    let keeps = c.self.invariant in
    let flops : c.slice.result.now ≡ (circuit i.net.now).flops = c.slice.ensures ∙ ap (λ r. r.flops) c.raw.ensures.parts in
    let P : List Flop → Type 0 = λ fs. ResetsAll i.wide fs i.flops.items c.reset_all.new.flops.items in
    let both = table_reset i.net.now i.layout i.wide i.flops.items c.as_slice.result.now i.nets.items c.reset_all.new.flops.items c.reset_all.new.nets.items
    keeps.2 keeps.0.wide keeps.0.flops keeps.0.zeroed keeps.3 (c.as_slice.ensures.value ∙ keeps.1) c.reset_all.ensures.settled
    (subst P flops c.reset_all.ensures.reset) in
    (both.0, keeps.1, keeps.2, c.reset_all.ensures.settled.size ∙ keeps.3)

pub returns-clause-reset : goal.returns-clause-reset
returns-clause-reset c =
    let i = c.self.inside in
    let keeps = c.self.invariant in
    let flops : c.slice.result.now ≡ (circuit i.net.now).flops = c.slice.ensures ∙ ap (λ r. r.flops) c.raw.ensures.parts in
    let P : List Flop → Type 0 = λ fs. ResetsAll i.wide fs i.flops.items c.reset_all.new.flops.items in
    let both = table_reset i.net.now i.layout i.wide i.flops.items c.as_slice.result.now i.nets.items c.reset_all.new.flops.items c.reset_all.new.nets.items
    keeps.2 keeps.0.wide keeps.0.flops keeps.0.zeroed keeps.3 (c.as_slice.ensures.value ∙ keeps.1) c.reset_all.ensures.settled
    (subst P flops c.reset_all.ensures.reset) in
    both.1
