-- How many inputs of gates, constants and ports there are, node by node.
use Rattle.std.specs.Prelude.{ℕ, ◌+◌, List, length, map}
use Rattle.std.specs.List.{sum_by}
use Rattle.bs_net.specs.declared.net.Gate.{Gate}
use Rattle.bs_flat_meaning.specs.Design.{Module}
use Rattle.bs_flat_meaning.specs.declared.paths.Node.{Node}
use Rattle.bs_flat_nets.specs.Blocks.{module_of}
use Rattle.bs_flat_nets.specs.Order.{module_in}
use Rattle.bs_flat_nets.specs.declared.blocks.FlatModule.{FlatModule}

-- how many inputs a gate has
abbrev pub gate_terminals : Gate → ℕ
gate_terminals g = length g.ins

-- how many inputs the gates of a module have, together with its constants
abbrev pub terminals_in : Module → ℕ
terminals_in m = sum_by gate_terminals m.own.gates + length m.own.consts

-- how many ports a module has
abbrev pub port_terminals : Module → ℕ
port_terminals m = length m.own.inputs + length m.own.outputs

-- how many inputs the gates on the paths of these nodes have, together with the constants there and the ports of the top
abbrev pub terminals_of : List FlatModule → List Node → ℕ → ℕ
terminals_of blocks nodes top =
    sum_by (λ n. terminals_in (module_in (map module_of blocks) n.of)) nodes + port_terminals (module_in (map module_of blocks) top)
