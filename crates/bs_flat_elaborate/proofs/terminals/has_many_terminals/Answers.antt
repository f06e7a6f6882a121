use Rattle.std.proofs.Common.{◌+◌, ◌<◌, ℕ, arith, map, refl, subst, take}
use Rattle.std.specs.List.{sum_by}
use Rattle.bs_flat_meaning.specs.Design.{Module}
use Rattle.bs_flat_meaning.specs.Paths.{no_node}
use Rattle.bs_flat_meaning.specs.declared.limits.TheConstants.{MAX_TERMINALS}
use Rattle.bs_flat_meaning.specs.declared.paths.Node.{Node}
use Rattle.bs_flat_nets.specs.Blocks.{module_of}
use Rattle.bs_flat_nets.specs.Order.{module_in}
use Rattle.bs_flat_elaborate.specs.Terminals.{terminals_in, terminals_of}
use Rattle.bs_flat_elaborate.proofs.TerminalLemmas.{past, many}
use Rattle.bs_flat_elaborate.proofs.terminals.has_many_terminals.Goals as goal

pub returns-in-None-behind_module : goal.returns-in-None-behind_module
returns-in-None-behind_module c =
    let blocks = c.args.blocks.now in
    let nodes = c.args.nodes.now in
    let count : Node → ℕ = λ n. terminals_in (module_in (map module_of blocks) n.of) in
    let so_far = c.nodes.left + sum_by count (take c.nodes.node-index nodes) in
    let wide = subst (λ (m : Module). c.nodes.left < terminals_in m) c.block_at-in-nodes.ensures c.in-None-behind_module.ensures in
    let beside = past count nodes c.nodes.node-index c.nodes.left so_far no_node c.nodes-test.true refl wide in
    many MAX_TERMINALS (terminals_of blocks nodes c.args.top) (omega (arith, beside, c.nodes.invariant))
