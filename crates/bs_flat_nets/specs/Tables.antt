-- Tables of depths and of counts, a number for each module, which end at a bound.
use Rattle.std.specs.Prelude.{◌≡◌, ℕ, ◌+◌, ◌<◌, List, length, min, slice_index_or}
use Rattle.bs_flat_meaning.specs.Design.{Module}
use Rattle.bs_flat_meaning.specs.Counts.{sum_of, tallest, parts_in}
use Rattle.bs_flat_nets.specs.Order.{module_in}
use Rattle.bs_flat_nets.specs.declared.blocks.FlatModule.{FlatModule}

-- the depth of a module: one past the end of the table has no instances
abbrev pub depth_at : List ℕ → ℕ → ℕ
depth_at table k = slice_index_or table k 0

-- the parts of a module and all below it, its path counted: one past the end of the table has its path alone
abbrev pub count_at : List ℕ → ℕ → ℕ
count_at table k = slice_index_or table k 1

-- the own parts of a block, and its path
abbrev pub own_count : FlatModule → ℕ
own_count b = length b.gates + (length b.flops + 1)

-- a module's depth of those of its instances, up to a bound
abbrev pub depth_by : ℕ → (ℕ → ℕ) → Module → ℕ
depth_by bound v m = min bound (tallest (λ i. v i.of) m.instances)

-- a module's count of those of its instances, up to a bound
abbrev pub count_by_parts : ℕ → (ℕ → ℕ) → Module → ℕ
count_by_parts bound v m = min bound (parts_in m + sum_of (λ i. v i.of) m.instances)

-- each number of a table is what a rule gives of the others; the modules past its end have the number `past`
pub record Follows (rule : (ℕ → ℕ) → Module → ℕ) (past : ℕ) (modules : List Module) (table : List ℕ) : Type 0 where
  pub each : (k : ℕ) → slice_index_or table k past ≡ rule (λ j. slice_index_or table j past) (module_in modules k)

-- the first modules of an order have the numbers that the rule gives
pub record FollowsFirst (rule : (ℕ → ℕ) → Module → ℕ) (past : ℕ) (modules : List Module) (order : List ℕ) (count : ℕ) (table : List ℕ) : Type 0 where
  pub each : (j : ℕ) → j < count →
      slice_index_or table (slice_index_or order j 0) past
      ≡ rule (λ i. slice_index_or table i past) (module_in modules (slice_index_or order j 0))
