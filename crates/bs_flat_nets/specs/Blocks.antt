-- The design that modules in code are.
use Rattle.std.specs.Prelude.{ℕ, ◌+◌, ◌<◌, List, length, map, All, string_bytes}
use Rattle.std.specs.List.{flat_map, range_with_len}
use Rattle.bs_net.specs.Parts.{Parts}
use Rattle.bs_flat_meaning.specs.Design.{Design, Module, Instance, Join}
use Rattle.bs_flat_meaning.specs.declared.paths.Instanced.{Instanced}
use Rattle.bs_flat_nets.specs.declared.blocks.JoinedNets.{JoinedNets}
use Rattle.bs_flat_nets.specs.declared.blocks.Child.{Child}
use Rattle.bs_flat_nets.specs.declared.blocks.FlatModule.{FlatModule}

-- the joined bits of a run
abbrev pub joins_of_run : JoinedNets → List Join
joins_of_run r = map (λ k. record { outer = record { 0 = r.outer + k }; inner = record { 0 = r.inner + k } }) (range_with_len 0 r.width)

-- the instance that a child is
abbrev pub instance_of : Child → Instance
instance_of c = record { name = string_bytes c.name; of = c.of; joins = flat_map joins_of_run c.joins }

-- a module's own parts
abbrev pub own_of : FlatModule → Parts
own_of b =
    record {
      names = map string_bytes b.names;
      inputs = b.inputs;
      outputs = b.outputs;
      consts = b.consts;
      gates = b.gates;
      flops = b.flops;
    }

-- the module that a block is
abbrev pub module_of : FlatModule → Module
module_of b = record { own = own_of b; instances = map instance_of b.children }

-- the design of blocks, of which one is the top
abbrev pub design_of : List FlatModule → ℕ → Design
design_of blocks top = record { modules = map module_of blocks; top = top }

-- each instance is of a block of the list
abbrev pub AreThere : List FlatModule → Type 0
AreThere blocks = All (λ b. All (λ c. c.of < length blocks) b.children) blocks

-- the modules of some instances, by their numbers
abbrev pub numbers_of : List Child → List ℕ
numbers_of cs = map (λ c. c.of) cs

-- a block as its instances alone
abbrev pub shape_of : FlatModule → Instanced
shape_of b = record { instances = numbers_of b.children }
