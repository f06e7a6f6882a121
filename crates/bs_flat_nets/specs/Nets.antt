-- The flat nets of a design, counted by modules.
use Rattle.std.specs.Prelude.{ℕ, zero, suc, ◌+◌, Bool, ◌&&◌, List, length, filter, is_none, min}
use Rattle.std.specs.List.{range_with_len}
use Rattle.bs_net.specs.Parts.{Parts}
use Rattle.bs_flat_meaning.specs.Design.{Design, Module, Instance, Join, module_in}
use Rattle.bs_flat_meaning.specs.Meaning.{joined_with}
use Rattle.bs_flat_meaning.specs.Flat.{constant_bit, is_bit}
use Rattle.bs_flat_meaning.specs.Counts.{sum_of}
use Rattle.bs_flat_nets.specs.declared.joined.Counted.{Counted}
use Rattle.bs_flat_nets.specs.declared.joined.Counted.TheVariants.{Plain, Constant}

-- a net that is joined with none of the parent, and is no constant
abbrev pub is_plain_net : Parts → List Join → ℕ → Bool
is_plain_net parts joins n = is_none (joined_with joins n) && is_none (constant_bit parts n)

-- a net that is joined with none of the parent, and is this constant
abbrev pub is_free_constant : Bool → Parts → List Join → ℕ → Bool
is_free_constant b parts joins n = is_none (joined_with joins n) && is_bit b (constant_bit parts n)

-- how many nets of a module with these joins are plain
unfoldable pub plain_count : Parts → List Join → ℕ
plain_count parts joins = length (filter (is_plain_net parts joins) (range_with_len 0 (length parts.names)))

-- how many are this constant
unfoldable pub constant_count : Bool → Parts → List Join → ℕ
constant_count b parts joins = length (filter (is_free_constant b parts joins) (range_with_len 0 (length parts.names)))

-- how many nets of a module with these joins are of a sort
abbrev pub weigh : Counted → Parts → List Join → ℕ
weigh Plain parts joins = plain_count parts joins
weigh (Constant b) parts joins = constant_count b parts joins

-- the sum of the weights of a module's instances and of all below them, of at most so many levels
unfoldable pub below_sum : ℕ → Design → (Instance → ℕ) → Module → ℕ
below_sum zero d g m = 0
below_sum (suc n) d g m = sum_of (λ i. g i + below_sum n d g (module_in d i.of)) m.instances

-- a module's sum of those of its instances' modules, up to a bound
abbrev pub sum_below : ℕ → (Instance → ℕ) → (ℕ → ℕ) → Module → ℕ
sum_below bound g v m = min bound (sum_of (λ i. g i + v i.of) m.instances)
