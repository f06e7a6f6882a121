-- An order of a design's modules, in which each stands after those that it instances.
use Rattle.std.specs.Prelude.{◌≡◌, ℕ, ◌<◌, List, length, map, slice_index_or}
use Rattle.std.specs.List.{Contains}
use Rattle.bs_net.specs.declared.net.Gate.{Gate}
use Rattle.bs_net.specs.Names.{net}
use Rattle.bs_net.specs.Order.{IsOrder, no_gate}
use Rattle.bs_flat_meaning.specs.Design.{Module, instance_in, no_module}
use Rattle.bs_flat_meaning.specs.Ring as numbers
use Rattle.bs_flat_nets.specs.Blocks.{module_of, numbers_of}
use Rattle.bs_flat_nets.specs.declared.blocks.FlatModule.{FlatModule}

-- the module with a number
abbrev pub module_in : List Module → ℕ → Module
module_in modules k = slice_index_or modules k no_module

-- the modules that a module's instances are of, by their numbers
abbrev pub instanced : Module → List ℕ
instanced m = map (λ i. i.of) m.instances

-- the same of each module
abbrev pub below_of : List Module → List (List ℕ)
below_of modules = map instanced modules

-- the same of each block
abbrev pub below_blocks : List FlatModule → List (List ℕ)
below_blocks blocks = map (λ b. numbers_of b.children) blocks

-- the order has each module once, and the modules that one instances before it
abbrev pub IsChildrenFirst : List Module → List ℕ → Type 0
IsChildrenFirst modules order = numbers.IsChildrenFirst (below_of modules) order

-- an order by the numbers of blocks' instances is one of the modules that the blocks are
abbrev pub NumberedIsChildrenFirst : Type 0
NumberedIsChildrenFirst =
    (blocks : List FlatModule) (order : List ℕ) → numbers.IsChildrenFirst (below_blocks blocks) order → IsChildrenFirst (map module_of blocks) order
