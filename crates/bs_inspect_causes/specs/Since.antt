-- Since when a net has had its bit.
use Rattle.std.specs.Prelude.{◌≡◌, ◌⊎◌, ℕ, ◌<◌, ◌≤◌, ◌-◌, not, Bool, true, false, List, length, slice_index_or}
use Rattle.bs_net.specs.Circuit.{Circuit}
use Rattle.bs_net_facts.specs.declared.fact.Fact.{Fact}
use Rattle.bs_net_facts.specs.Facts.{IsReal}
use Rattle.bs_net_facts.specs.Blocks.{moved}

-- the other bit, in the cycle before
abbrev pub turned : ℕ → Fact → Fact
turned cycle f = record { net = f.net; cycle = cycle - 1; bit = not f.bit }

-- the net of a fact has its bit from a cycle on
pub record Stands (c : Circuit) (states inputs : List (List Bool)) (f : Fact) (since : ℕ) : Type 0 where
  pub in_order : since ≤ f.cycle
  pub each : (t : ℕ) → since ≤ t → t ≤ f.cycle → IsReal c states inputs (moved t f)

-- whether the net of a fact has the other bit in the cycle before one
pub record Turns (c : Circuit) (states inputs : List (List Bool)) (f : Fact) (since : ℕ) (result : Bool) : Type 0 where
  pub if_true : result ≡ true → IsReal c states inputs (turned since f)
  pub if_false : result ≡ false → IsReal c states inputs (moved (since - 1) f)

-- and no longer: it has the other one in the cycle before, where there is such a one
pub record StoodSince (c : Circuit) (states inputs : List (List Bool)) (f : Fact) (since : ℕ) : Type 0 where
  pub stands : Stands c states inputs f since
  pub began : (since ≡ 0) ⊎ IsReal c states inputs (turned since f)

-- a cycle for each of these facts, since which it has stood
pub record AreAges (c : Circuit) (states inputs : List (List Bool)) (facts : List Fact) (count : ℕ) (ages : List ℕ) : Type 0 where
  pub size : length ages ≡ count
  pub each : (i : ℕ) (d : Fact) → i < count → StoodSince c states inputs (slice_index_or facts i d) (slice_index_or ages i 0)
