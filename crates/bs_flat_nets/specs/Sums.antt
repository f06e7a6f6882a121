-- Sums of weights over the modules of blocks.
use Rattle.std.specs.Prelude.{ℕ, ◌<◌, ◌+◌, List, [], length, map, All, nat_eq}
use Rattle.std.specs.List.{flat_map, IsDistinct}
use Rattle.bs_flat_meaning.specs.Design.{Design, Module, Instance, own, module_at}
use Rattle.bs_flat_meaning.specs.declared.limits.TheConstants.{MAX_DEPTH}
use Rattle.bs_flat_nets.specs.Blocks.{joins_of_run, own_of, module_of}
use Rattle.bs_flat_nets.specs.Constants.{known_constants}
use Rattle.bs_flat_nets.specs.Order.{module_in}
use Rattle.bs_flat_nets.specs.Nets.{weigh, below_sum}
use Rattle.bs_flat_nets.specs.declared.joined.Counted.{Counted}
use Rattle.bs_flat_nets.specs.declared.constants.Bit.{Bit}
use Rattle.bs_flat_nets.specs.declared.blocks.FlatModule.{FlatModule}
use Rattle.bs_flat_nets.specs.declared.blocks.Child.{Child}

-- the weight of an instance in the count of a sort
abbrev pub weight_in : Counted → List Module → Instance → ℕ
weight_in s modules i = weigh s (module_in modules i.of).own i.joins

-- the nets of a sort of the top and of all below it
abbrev pub top_sum : Counted → Design → ℕ
top_sum s d = weigh s (own d []) [] + below_sum MAX_DEPTH d (weight_in s d.modules) (module_at d [])

-- the joins of a child name nets of its block, each net once
pub record IsFit (blocks : List FlatModule) (c : Child) : Type 0 where
  pub within : All (λ j. j.inner.0 < length (module_in (map module_of blocks) c.of).own.names) (flat_map joins_of_run c.joins)
  pub once : IsDistinct nat_eq (map (λ j. j.inner.0) (flat_map joins_of_run c.joins))

-- the constants of all blocks
abbrev pub all_bits_of : List FlatModule → List (List Bit)
all_bits_of blocks = map (λ b. known_constants (own_of b)) blocks
