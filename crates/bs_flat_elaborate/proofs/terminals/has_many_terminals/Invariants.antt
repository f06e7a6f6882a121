use Rattle.std.proofs.Common.{◌≡◌, ◌+◌, map, take}
use Rattle.std.specs.List.{sum_by}
use Rattle.bs_flat_meaning.specs.declared.limits.TheConstants.{MAX_TERMINALS}
use Rattle.bs_flat_nets.specs.Blocks.{module_of}
use Rattle.bs_flat_nets.specs.Order.{module_in}
use Rattle.bs_flat_elaborate.specs.Terminals.{port_terminals, terminals_in}
use Rattle.bs_flat_elaborate.proofs.terminals.has_many_terminals.Given as goal

abbrev pub invariant-nodes : goal.invariant-nodes
invariant-nodes l =
    l.left
    + (sum_by (λ n. terminals_in (module_in (map module_of l.blocks) n.of)) (take l.node-index l.nodes)
    + port_terminals (module_in (map module_of l.blocks) l.top))
    ≡ MAX_TERMINALS
