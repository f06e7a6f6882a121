-- Modules by what they instance, each by its number: an order in which each stands after those, or a ring.
use Rattle.std.specs.Prelude.{◌≡◌, ℕ, ◌<◌, List, length, slice_index_or, All, nat_eq}
use Rattle.std.specs.List.{position_or_len}
use Rattle.bs_flat_meaning.specs.Rings.{instanced_by, IsRing}
use Rattle.bs_flat_meaning.specs.declared.children_first.Levels.{Levels}
use Rattle.bs_flat_meaning.specs.declared.children_first.Levels.TheVariants.{Ordered, Ringed}

-- the place of a module in an order
abbrev pub place_in_order : List ℕ → ℕ → ℕ
place_in_order order m = position_or_len (nat_eq m) order

-- the order has each module once, and the modules that one instances before it
pub record IsChildrenFirst (below : List (List ℕ)) (order : List ℕ) : Type 0 where
  pub placed : All (λ m. m < length below) order
  pub each : (m : ℕ) → m < length below → place_in_order order m < length order
  pub once : (j : ℕ) → j < length order → place_in_order order (slice_index_or order j 0) ≡ j
  pub earlier : (m i : ℕ) → i < length (instanced_by below m) → place_in_order order (slice_index_or (instanced_by below m) i 0) < place_in_order order m

-- an order, or a ring
abbrev pub IsLevels : List (List ℕ) → Levels → Type 0
IsLevels below (Ordered order) = IsChildrenFirst below order
IsLevels below (Ringed ring) = IsRing below ring

-- where there is a ring the modules have no order
abbrev pub RingsHaveNoOrder : Type 0
RingsHaveNoOrder = (below : List (List ℕ)) (ring order : List ℕ) → IsRing below ring → IsChildrenFirst below order → ⊥
