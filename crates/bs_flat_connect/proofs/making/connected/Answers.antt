use Rattle.std.proofs.Common.{◌≡◌, ◌<◌, List, Result, Ok, Err, ap, sym, subst, ◌∙◌, length}
use Rattle.std.specs.List.{All}
use Rattle.bs_flat_meaning.specs.declared.statements.Written.{Written}
use Rattle.bs_flat_nets.specs.declared.blocks.FlatModule.{FlatModule}
use Rattle.bs_flat_modules.specs.declared.owns.Own.{Own}
use Rattle.bs_flat_connect.specs.declared.ports.Ports.{Ports}
use Rattle.bs_flat_connect.specs.declared.fault.Fault.{Fault}
use Rattle.bs_flat_connect.specs.Instances.{AreAllPorts}
use Rattle.bs_flat_connect.specs.Connecting.{TellsBlocks, Connects}
use Rattle.bs_flat_connect.proofs.LoopLemmas.{fails}
use Rattle.bs_flat_connect.proofs.ChildLemmas.{ports_long}
use Rattle.bs_flat_connect.proofs.MakeLemmas.{connects}
use Rattle.bs_flat_connect.proofs.making.connected.Goals as goal

pub blocks-all-requires-clause-there : goal.blocks-all-requires-clause-there
blocks-all-requires-clause-there c =
    let long = ports_long c.slice-owns.result.now c.in_ok-ports.ports c.in_ok-ports.ensures in
    let same : length c.args.modules.now.owns ≡ length c.slice.result.now =
    sym (ap length c.slice.ensures ∙ (long ∙ ap length c.slice-owns.ensures)) in
    subst (λ n. All (λ ns. All (λ k. k < n) ns) c.args.below.now) same c.requires.there

pub returns-clause-connects : goal.returns-clause-connects
returns-clause-connects c =
    let r = c.blocks-all.result in
    let ports : AreAllPorts c.args.modules.now.owns c.slice.result.now =
    subst (λ (l : List Ports). AreAllPorts c.args.modules.now.owns l) (sym c.slice.ensures)
    (subst (λ (l : List Own). AreAllPorts l c.in_ok-ports.ports) c.slice-owns.ensures c.in_ok-ports.ensures) in
    let tells : TellsBlocks c.args.table.now c.slice.result.now c.args.below.now c.args.modules.now.owns c.args.modules.now.written r =
    subst (λ (l : List (List Written)). TellsBlocks c.args.table.now c.slice.result.now c.args.below.now c.args.modules.now.owns l r) c.slice-2.ensures
    (subst (λ (l : List Own). TellsBlocks c.args.table.now c.slice.result.now c.args.below.now l c.slice-2.result.now r) c.slice-owns.ensures
    c.blocks-all.ensures.tells) in
    connects c.args.table.now c.slice.result.now c.args.below.now c.args.modules.now r c.requires.owns ports tells
