-- Groups of places, by the parities of whose bits a state is told.
use Rattle.std.specs.Prelude.{◌≡◌, ℕ, ◌<◌, Bool, true, false, List, All, length, map, slice_index_or}
use Rattle.bs_net.specs.Circuit.{Circuit, next}
use Rattle.bs_scan.specs.Signature.{parity_of}

-- the parity of the bits of each group
abbrev pub parities_of : List (List ℕ) → List Bool → List Bool
parities_of groups bits = map (parity_of bits) groups

-- a place that is picked is flagged
pub record IsPicked (flags : List Bool) (place : ℕ) (picked : Bool) : Type 0 where
  pub flagged : picked ≡ true → slice_index_or flags place false ≡ true

-- the groups' parities of the next state are the same under all inputs in which a data input has a value
pub record AreIndependent (c : Circuit) (input : ℕ) (value : Bool) (groups : List (List ℕ)) : Type 0 where
  pub in_range : All (λ group. All (λ place. place < length c.flops) group) groups
  pub same : (state a b : List Bool) → length state ≡ length c.flops → length a ≡ length c.inputs → length b ≡ length c.inputs →
      slice_index_or a input false ≡ value → slice_index_or b input false ≡ value →
      parities_of groups (next c state a) ≡ parities_of groups (next c state b)
