use Rattle.std.proofs.Common.{◌∙◌, subst}
use Rattle.bs_net.specs.Netlist.{circuit}
use Rattle.bs_lanes.specs.Lanes.{LaneTable, AreStepped}
use Rattle.bs_lanes.proofs.LayoutLemmas.{has_layout, table, table_stepped}
use Rattle.bs_lanes.proofs.lanes.Lanes.step.Goals as goal

pub step_all-requires-clause-placed : goal.step_all-requires-clause-placed
step_all-requires-clause-placed c =
    let i = c.self.inside in
    has_layout (circuit i.net.now) i.layout i.wide i.nets.items c.self.invariant.2 c.self.invariant.3

pub invariant_of-self : goal.invariant_of-self
invariant_of-self c =
    let i = c.self.inside in
    let keeps = c.self.invariant in
    let both = table_stepped i.net.now i.layout i.wide i.flops.items c.args.inputs.now i.nets.items c.step_all.new.flops.items c.step_all.new.nets.items keeps.2
    keeps.0 keeps.3 c.step_all.ensures.settled c.step_all.ensures.loaded in
    (both.0, keeps.1, keeps.2, c.step_all.ensures.settled.size ∙ keeps.3)

pub returns-clause-stepped : goal.returns-clause-stepped
returns-clause-stepped c =
    let i = c.self.inside in
    let keeps = c.self.invariant in
    let both = table_stepped i.net.now i.layout i.wide i.flops.items c.args.inputs.now i.nets.items c.step_all.new.flops.items c.step_all.new.nets.items keeps.2
    keeps.0 keeps.3 c.step_all.ensures.settled c.step_all.ensures.loaded in
    let V : LaneTable → Type 0 = λ t.
    AreStepped t (table i.net.now i.layout i.wide c.step_all.new.flops.items c.step_all.new.nets.items) c.args.inputs.now in
    subst V c.self.view_is both.1
